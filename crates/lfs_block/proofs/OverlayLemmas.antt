-- What the blocks of an overlay hold.
use Rattle.std.proofs.Common.{◌≡◌, ℕ, ◌<◌, List, map, Some, None, option_map, ap, ◌∙◌}
use Rattle.lfs_block.specs.Change.{Change, change_of, flip}
use Rattle.lfs_block.specs.Disk.{Disk, block_at, block_of}
use Rattle.lfs_block.specs.Overlay.{IsOverlay, count_of, laid_side, side_of}
use Rattle.lfs_block.specs.Patch.{ChangeSet, flipped}
use Rattle.lfs_block.specs.PatchLaws.{IsDiskOf}
use Rattle.lfs_block.specs.declared.side.Side.{Side}
use Rattle.lfs_block.specs.declared.side.Side.TheVariants.{Old, New}
use Rattle.lfs_block.proofs.ChangeLemmas.{overlaid-by}
use Rattle.lfs_block.proofs.PatchLemmas.{change-flipped, flipped-is_patch, made-block, made-is_disk, none-flipped}

-- what lies on a disk is one of its size, and of the count of that side
pub laid-is_disk : (side : Side) (p : ChangeSet) (block : List ℕ) (d : Disk) → IsOverlay p block d
    → IsDiskOf d.size (count_of side p) (laid_side side p d)
laid-is_disk Old p block d is = made-is_disk (flipped p) d is.disk (flipped-is_patch p is.patch) is.size
laid-is_disk New p block d is = made-is_disk p d is.disk is.patch is.size

-- a block without a change holds what the disk holds, or is erased behind its end
pub laid-none : (side : Side) (p : ChangeSet) (block : List ℕ) (d : Disk) (n : ℕ) → IsOverlay p block d → n < count_of side p
    → change_of n p.changes ≡ None → block_of (laid_side side p d) n ≡ block_at d n
laid-none Old p block d n is within none =
    made-block (flipped p) d n is.disk (flipped-is_patch p is.patch) is.size within
    ∙ overlaid-by (map flip p.changes) n (block_at d n) None (none-flipped p.changes n none)
laid-none New p block d n is within none =
    made-block p d n is.disk is.patch is.size within ∙ overlaid-by p.changes n (block_at d n) None none

-- any other the bytes of its change
pub laid-some : (side : Side) (p : ChangeSet) (block : List ℕ) (d : Disk) (n : ℕ) (c : Change) → IsOverlay p block d
    → n < count_of side p → change_of n p.changes ≡ Some c → block_of (laid_side side p d) n ≡ side_of side c
laid-some Old p block d n c is within some =
    made-block (flipped p) d n is.disk (flipped-is_patch p is.patch) is.size within
    ∙ overlaid-by (map flip p.changes) n (block_at d n) (Some (flip c))
    (change-flipped p.changes n ∙ ap (option_map flip) some)
laid-some New p block d n c is within some =
    made-block p d n is.disk is.patch is.size within ∙ overlaid-by p.changes n (block_at d n) (Some c) some
