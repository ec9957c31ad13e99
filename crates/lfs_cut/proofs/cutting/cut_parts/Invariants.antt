-- The parts behind are still to be cut.
use Rattle.std.proofs.Common.{◌≡◌, ◌++◌, length}
use Rattle.std.specs.Vec.Iter.{into_iter_items, into_iter_len}
use Rattle.lfs_cut.specs.CutParts.{cut_all}
use Rattle.lfs_cut.proofs.cutting.cut_parts.Given as goal

abbrev pub invariant-each : goal.invariant-each
invariant-each l = record {
  counted : into_iter_len l.part-iterator ≡ length (into_iter_items l.part-iterator);
  cut_so_far : l.all.items ++ cut_all l.room.bytes l.room.superblock l.rows (into_iter_items l.part-iterator)
      ≡ l.fn.behind.items ++ cut_all l.room.bytes l.room.superblock l.rows l.fn.parts.items;
}
