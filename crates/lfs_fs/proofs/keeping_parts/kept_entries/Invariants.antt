use Rattle.std.proofs.Common.{◌≡◌, length}
use Rattle.std.specs.Vec.Iter.{into_iter_items, into_iter_len}
use Rattle.lfs_fs.specs.Reading.{reading_of}
use Rattle.lfs_fs.specs.Gathering.{part_entries}
use Rattle.lfs_fs.proofs.GatheringLemmas.{KeepsTo}
use Rattle.lfs_fs.proofs.keeping_parts.kept_entries.Given as goal

abbrev pub invariant-each : goal.invariant-each
invariant-each g l = record {
  counted : into_iter_len l.entry-iterator ≡ length (into_iter_items l.entry-iterator);
  keeps : KeepsTo (reading_of (g.B.Blocks.disk l.blocks)) l.limits l.fn.used (part_entries l.before) l.fn.entries.items l.used l.kept.items
      (into_iter_items l.entry-iterator);
}
