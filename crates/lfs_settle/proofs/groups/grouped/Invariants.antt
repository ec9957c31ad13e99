-- The directories that have ended, the parts of the one that goes on, and those after it.
use Rattle.std.proofs.Common.{◌≡◌, ◌++◌, length, map}
use Rattle.std.specs.Vec.Iter.{into_iter_items, into_iter_len}
use Rattle.lfs_settle.specs.Grouping.{put_before_all}
use Rattle.lfs_settle.specs.Reached.{groups}
use Rattle.lfs_settle.proofs.groups.grouped.Given as goal

abbrev pub invariant-each : goal.invariant-each
invariant-each l = record {
  counted : into_iter_len l.part-iterator ≡ length (into_iter_items l.part-iterator);
  left : groups l.fn.parts.items ≡ map (λ g. g.items) l.groups.items ++ put_before_all l.current.items (groups (into_iter_items l.part-iterator));
}
