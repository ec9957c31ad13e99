-- The superblock is judged before what the root's first pair leads to (own).
use Rattle.std.specs.Prelude.{ℕ, ◌≡◌, ◌⊎◌, List, [], ◌∷◌}
use Rattle.lfs_block.specs.Disk.{Disk}
use Rattle.lfs_block.specs.declared.mount_fault.MountFault.{MountFault}
use Rattle.lfs_block.specs.declared.mount_fault.MountFault.TheVariants.{NoSuperblock, Version, Geometry, Limits, Memory}
use Rattle.lfs_meta.specs.Entry.{StoredEntry}
use Rattle.lfs_fs.specs.Cause.{HasCause}
use Rattle.lfs_fs.specs.Header.{HeaderCause, IsHeader}
use Rattle.lfs_fs.specs.Judged.{IsSuperblockWith}
use Rattle.lfs_fs.specs.Superblock.{IsSuperblock}

-- a fault of the superblock itself: there is none, or one of its words is wrong
abbrev pub IsOfSuperblock : MountFault → Type 0
IsOfSuperblock NoSuperblock = Unit {0}
IsOfSuperblock Version = Unit {0}
IsOfSuperblock Geometry = Unit {0}
IsOfSuperblock Limits = Unit {0}
IsOfSuperblock _ = ⊥

-- where the image has a cause of these, the fault is one of them, or want of memory
abbrev pub BlamesSuperblock : Disk → MountFault → Type 0
BlamesSuperblock d fault = (cause : MountFault) → IsOfSuperblock cause → HasCause d cause → IsOfSuperblock fault ⊎ (fault ≡ Memory)

-- it has none of them
abbrev pub HasGoodSuperblock : Disk → Type 0
HasGoodSuperblock d = (cause : MountFault) → IsOfSuperblock cause → HasCause d cause → ⊥

-- why an entry is no superblock of an image of `count` blocks of `size` bytes
abbrev pub HeaderRefused : MountFault → ℕ → ℕ → StoredEntry → Type 0
HeaderRefused NoSuperblock size count e = (bytes : List ℕ) → IsSuperblock e bytes → ⊥
HeaderRefused fault size count e = IsSuperblockWith e (λ bytes. HeaderCause fault size count bytes)

-- why the first entry of a part is none
abbrev pub FirstRefused : MountFault → ℕ → ℕ → List StoredEntry → Type 0
FirstRefused NoSuperblock size count [] = Unit {0}
FirstRefused fault size count [] = ⊥
FirstRefused fault size count (e ∷ es) = HeaderRefused fault size count e

-- an entry is one
abbrev pub HeaderTaken : ℕ → ℕ → StoredEntry → Type 0
HeaderTaken size count e = IsSuperblockWith e (λ bytes. IsHeader size count bytes)

-- and the first entry of a part
abbrev pub FirstTaken : ℕ → ℕ → List StoredEntry → Type 0
FirstTaken size count [] = ⊥
FirstTaken size count (e ∷ es) = HeaderTaken size count e
