use Rattle.std.proofs.Common.{◌≡◌, map}
use Rattle.lfs_block.specs.Change.{flip}
use Rattle.lfs_block.proofs.WritingLemmas.{IsChangedTo}
use Rattle.lfs_block.proofs.patch.Patch.revert.Given as goal

abbrev pub invariant-loop-record : goal.invariant-loop-record
invariant-loop-record l = record {
  made : IsChangedTo (map flip l.self.changes) l.record-index l.fn.image.disk l.image.disk;
  room : l.image.room ≡ l.fn.image.room;
}
