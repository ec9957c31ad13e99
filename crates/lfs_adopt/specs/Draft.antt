-- A draft of an image: the image, and blocks that are written anew beside it (own).
use Rattle.std.specs.Prelude.{ℕ, ◌≡◌, ◌+◌, List, [], ◌∷◌, Option, Some, None, length}
use Rattle.std.specs.List.{AllByRecursion}
use Rattle.lfs_block.specs.Bytes.{IsBytes}
use Rattle.lfs_block.specs.Disk.{Disk, IsDisk, put}

-- a disk, and for each of its blocks the bytes that stand in their place, or none
pub record Drafted : Type 0 where
  pub base : Disk
  pub blocks : List (Option (List ℕ))

-- a disk with a new block in the place of block n, if there is one
abbrev pub put_new : ℕ → Option (List ℕ) → Disk → Disk
put_new n None d = d
put_new n (Some bytes) d = put n bytes d

-- a disk with new blocks from block n on
abbrev pub put_from : ℕ → List (Option (List ℕ)) → Disk → Disk
put_from n [] d = d
put_from n (o ∷ os) d = put_from (n + 1) os (put_new n o d)

-- the disk that a draft stands for
abbrev pub drafted : Drafted → Disk
drafted f = put_from 0 f.blocks f.base

-- a new block is of this size
abbrev pub IsNewBlock : ℕ → Option (List ℕ) → Type 0
IsNewBlock size None = Unit {0}
IsNewBlock size (Some bytes) = (length bytes ≡ size) × IsBytes bytes

-- there is a place for each block of the disk, and each new block is of its size
pub record IsDraft (f : Drafted) : Type 0 where
  pub disk : IsDisk f.base
  pub len : length f.blocks ≡ f.base.count
  pub each : AllByRecursion (IsNewBlock f.base.size) f.blocks
