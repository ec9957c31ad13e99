-- The new blocks so far stand in the image.
use Rattle.std.specs.Prelude.{◌≡◌, take}
use Rattle.lfs_adopt.specs.Draft.{put_from}
use Rattle.lfs_adopt.proofs.draft.put_drafted.Given as goal

abbrev pub invariant-loop-number : goal.invariant-loop-number
invariant-loop-number l = record {
  disk : l.image.disk ≡ put_from 0 (take l.number l.blocks) l.fn.image.disk;
  room : l.image.room ≡ l.fn.image.room;
}
