-- What is known of an image beside one whose outline is known (own).
use Rattle.std.specs.Prelude.{◌≡◌}
use Rattle.lfs_block.specs.Disk.{Disk}
use Rattle.lfs_block.specs.Patch.{ChangeSet}
use Rattle.lfs_fs.specs.Volume.{Volume}
use Rattle.lfs_fs.specs.Reread.{IsOutlineBut}
use Rattle.lfs_law.specs.WrittenLinks.{changed_blocks}

-- the outline is that of the image on the other side of a patch, where that keeps the count
abbrev pub IsBeside : ChangeSet → Disk → Volume → Type 0
IsBeside p e outline = p.after ≡ p.before → IsOutlineBut (changed_blocks p.changes) e outline
