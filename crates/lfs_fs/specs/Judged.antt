-- The first entry of a thread, judged as a superblock and taken off (own).
use Rattle.std.specs.Prelude.{ℕ, ◌≡◌, ◌<◌, List, [], length}
use Rattle.std.specs.List.{Any}
use Rattle.lfs_block.specs.declared.mount_fault.MountFault.{MountFault}
use Rattle.lfs_block.specs.declared.mount_fault.MountFault.TheVariants.{NoSuperblock, BadSize}
use Rattle.lfs_meta.specs.Entry.{StoredEntry}
use Rattle.lfs_fs.specs.declared.limits.Limits.{Limits}
use Rattle.lfs_fs.specs.Gathering.{PairPart}
use Rattle.lfs_fs.specs.Header.{IsHeader, HeaderCause}
use Rattle.lfs_fs.specs.Sound.{AreAttributes}
use Rattle.lfs_fs.specs.Superblock.{IsSuperblock, header_of}

-- an entry is the superblock of an image of `count` blocks of `size` bytes, and says these limits
pub record SaysLimits (size count : ℕ) (limits : Limits) (e : StoredEntry) : Type 0 where
  pub bytes : List ℕ
  pub is : IsSuperblock e bytes
  pub header : IsHeader size count bytes
  pub limits_are : limits ≡ (header_of bytes []).limits
  pub fit : AreAttributes limits.attribute e.attributes

-- an entry is a superblock with such bytes
pub record IsSuperblockWith (e : StoredEntry) (these : List ℕ → Type 0) : Type 0 where
  pub bytes : List ℕ
  pub is : IsSuperblock e bytes
  pub says : these bytes

-- why it isn't
abbrev pub JudgedCause : MountFault → ℕ → ℕ → StoredEntry → Type 0
JudgedCause NoSuperblock size count e = (bytes : List ℕ) → IsSuperblock e bytes → ⊥
JudgedCause BadSize size count e = IsSuperblockWith e (λ bytes. Any (λ a. (header_of bytes []).limits.attribute < length a.1) e.attributes)
JudgedCause fault size count e = IsSuperblockWith e (λ bytes. HeaderCause fault size count bytes)

-- a part with other entries
abbrev pub with_entries : PairPart → List StoredEntry → PairPart
with_entries p es = (p.0, record { entries = es; tail = p.1.tail; delta = p.1.delta })
