-- What pairs hold, and why they hold nothing.
use Rattle.std.specs.Prelude.{◌≡◌, ◌<◌, ◌≤◌, Some, None, All, length}
use Rattle.lfs_block.specs.Disk.{Disk, IsDisk}
use Rattle.lfs_block.specs.declared.mount_fault.MountFault.{MountFault}
use Rattle.lfs_meta.specs.Body.{Pair}
use Rattle.lfs_meta.specs.Cause.{PairCause}
use Rattle.lfs_meta.specs.Entry.{StoredEntry}
use Rattle.lfs_meta.specs.Fits.{RiseFrom}
use Rattle.lfs_meta.specs.LiveBlock.{stored_part_of}
use Rattle.lfs_meta.specs.Part.{StoredPart}
use Rattle.lfs_meta.specs.Complete.{IsComplete}

-- a pair that holds no part has a cause
abbrev pub PairsWithoutAPartHaveACause : Type 0
PairsWithoutAPartHaveACause = (d : Disk) (pair : Pair) → stored_part_of d pair ≡ None → (fault : MountFault) × PairCause fault d pair

-- an entry is complete, and its attributes rise strictly by kind
pub record IsHeldEntry (e : StoredEntry) : Type 0 where
  pub complete : IsComplete e
  pub attributes : RiseFrom 0 e.attributes

-- the entries of a part that a pair of the disk holds are of this form
abbrev pub HeldPartsAreComplete : Type 0
HeldPartsAreComplete = (d : Disk) (pair : Pair) (p : StoredPart) → IsDisk d → pair.0 < d.count → pair.1 < d.count
    → stored_part_of d pair ≡ Some p → All IsHeldEntry p.entries

-- a part that a pair of the disk holds has no more entries than the largest block has bytes
abbrev pub HeldPartsHaveFewEntries : Type 0
HeldPartsHaveFewEntries = (d : Disk) (pair : Pair) (p : StoredPart) → IsDisk d → stored_part_of d pair ≡ Some p → length p.entries ≤ 65536
