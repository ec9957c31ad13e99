-- Pairs of which no older state can be taken (own).
use Rattle.std.specs.Prelude.{ℕ, ◌≡◌, ◌≢◌, ◌⊎◌, ◌&&◌, Bool, true, List, if◌then◌else◌}
use Rattle.std.specs.Option.{is_none}
use Rattle.lfs_block.specs.Disk.{Disk, IsDisk, block_of, erased_block}
use Rattle.lfs_meta.specs.Body.{Pair}
use Rattle.lfs_meta.specs.LiveBlock.{committed}
use Rattle.lfs_lower.specs.Spelled.{is_root_block, later_committed, lowered_tags}

-- neither version reads a commit of a block
abbrev pub is_silent : List ℕ → Bool
is_silent block = is_none (committed block) && is_none (later_committed block)

-- a block says nothing: it is erased, or neither version reads a commit of it
abbrev pub SaysNothing : Disk → ℕ → Type 0
SaysNothing e b = (block_of e b ≡ erased_block e.size) ⊎ (is_silent (block_of e b) ≡ true)

-- one of a pair's blocks says nothing
abbrev pub IsAlone : Disk → Pair → Type 0
IsAlone e p = SaysNothing e p.0 ⊎ SaysNothing e p.1

-- version 2.0 reads of a block what version 2.1 does, and it states no later version
abbrev pub IsPlain : Disk → ℕ → Type 0
IsPlain d b = lowered_tags (is_root_block b) (block_of d b) ≡ committed (block_of d b)

-- both blocks of a pair are as they were
abbrev pub IsSame : Disk → Disk → Pair → Type 0
IsSame d e p = (block_of e p.0 ≡ block_of d p.0) × (block_of e p.1 ≡ block_of d p.1)

-- and plain
pub record IsLeft (d e : Disk) (p : Pair) : Type 0 where
  pub first_plain : IsPlain d p.0
  pub second_plain : IsPlain d p.1
  pub same : IsSame d e p

-- what is left beside a block that is written: a block that says nothing stays, and another one is erased
abbrev pub left_beside : ℕ → List ℕ → List ℕ
left_beside size block = if is_silent block then block else erased_block size

-- a block is written, and the one beside it says nothing
pub record IsWrittenAlone (d e : Disk) (live beside : ℕ) (block : List ℕ) : Type 0 where
  pub disk : IsDisk e
  pub size : e.size ≡ d.size
  pub count : e.count ≡ d.count
  pub here : block_of e live ≡ block
  pub there : block_of e beside ≡ left_beside d.size (block_of d beside)
  pub others : (b : ℕ) → b ≢ live → b ≢ beside → block_of e b ≡ block_of d b

-- two blocks are those of a pair, in either order
abbrev pub AreOf : Pair → ℕ → ℕ → Type 0
AreOf p live beside = ((live ≡ p.0) × (beside ≡ p.1)) ⊎ ((live ≡ p.1) × (beside ≡ p.0))
