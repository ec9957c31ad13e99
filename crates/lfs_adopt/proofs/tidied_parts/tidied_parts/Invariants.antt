-- The parts that stay so far, and those after them.
use Rattle.std.proofs.Common.{◌≡◌, [], length}
use Rattle.std.specs.Vec.Iter.{into_iter_items, into_iter_len}
use Rattle.lfs_adopt.proofs.Filled.{left_of}
use Rattle.lfs_adopt.proofs.tidied_parts.tidied_parts.Given as goal

abbrev pub invariant-each : goal.invariant-each
invariant-each l = record {
  counted : into_iter_len l.part-iterator ≡ length (into_iter_items l.part-iterator);
  left : left_of [] l.fn.parts.items ≡ left_of l.kept.items (into_iter_items l.part-iterator);
}
