use Rattle.std.proofs.Common.{◌≡◌}
use Rattle.lfs_block.specs.Disk.{resized}
use Rattle.lfs_block.proofs.WritingLemmas.{IsChangedTo}
use Rattle.lfs_block.proofs.patch.Patch.apply.Given as goal

abbrev pub invariant-loop-record : goal.invariant-loop-record
invariant-loop-record l = record {
  made : IsChangedTo l.self.changes l.record-index (resized l.self.after l.fn.image.disk) l.image.disk;
  room : l.image.room ≡ l.fn.image.room;
}
