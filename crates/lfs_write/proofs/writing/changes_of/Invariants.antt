use Rattle.std.proofs.Common.{◌≡◌, ◌+◌, ◌++◌, length, map, drop}
use Rattle.std.specs.Vec.Iter.{into_iter_items, into_iter_len}
use Rattle.lfs_command.specs.PartWritten.{changes_at}
use Rattle.lfs_write.proofs.writing.changes_of.Given as goal

abbrev pub invariant-each : goal.invariant-each
invariant-each g l = record {
  counted : into_iter_len l.new-iterator ≡ length (into_iter_items l.new-iterator);
  many : length l.changes.items + length (into_iter_items l.new-iterator) ≡ length l.blocks;
  changes : l.changes.items ++ changes_at (g.B.Blocks.disk l.image) (drop (length l.changes.items) l.blocks)
      (map (λ c. c.items) (into_iter_items l.new-iterator))
      ≡ changes_at (g.B.Blocks.disk l.image) l.blocks (map (λ c. c.items) l.fn.contents.items);
}
