-- A table of used blocks: one flag a block (own).
use Rattle.std.specs.Prelude.{ℕ, ◌+◌, ◌<◌, ◌≤◌, ◌≡◌, ◌^◌, Bool, true, false, List, length, slice_index_or, if◌then◌else◌, count_by, not}
use Rattle.std.specs.List.{Any}
use Rattle.lfs_block.specs.declared.mount_fault.MountFault.{MountFault}
use Rattle.lfs_block.specs.declared.mount_fault.MountFault.TheVariants.{BlockRange, BlockTwice}
use Rattle.lfs_fs.specs.Uses.{times}

-- how often the table says that a block is used
abbrev pub marked : List Bool → ℕ → ℕ
marked used b = if slice_index_or used b false then 1 else 0

-- the table says how often each block is used
abbrev pub Marks : List Bool → (ℕ → ℕ) → Type 0
Marks used uses = (b : ℕ) → marked used b ≡ uses b

-- how many blocks aren't
abbrev pub unmarked : List Bool → ℕ
unmarked used = count_by (λ u. not u) used

-- so many blocks in front are all marked
pub record AreMarkedBelow (n : ℕ) (used : List Bool) : Type 0 where
  pub within : n ≤ length used
  pub each : (b : ℕ) → b < n → slice_index_or used b false ≡ true

-- beside a table stand how many blocks aren't marked, and a block below which all are
pub record IsTallied (used : List Bool) (count lowest : ℕ) : Type 0 where
  pub len : length used < 2 ^ 32
  pub free : count ≡ unmarked used
  pub below : AreMarkedBelow lowest used

-- some blocks are marked, each of which wasn't
pub record AddsBlocks (old new : List Bool) (blocks : List ℕ) : Type 0 where
  pub len : length new ≡ length old
  pub marks : Marks new (λ b. marked old b + times b blocks)
  pub fewer : unmarked new + length blocks ≡ unmarked old

-- blocks can be marked: each is one of the table's and isn't marked, and none stands twice
pub record CanBeMarked (used : List Bool) (blocks : List ℕ) : Type 0 where
  pub within : (b : ℕ) → 0 < times b blocks → b < length used
  pub once : (b : ℕ) → marked used b + times b blocks ≤ 1

-- each of some blocks is marked, and none stands twice
abbrev pub AreMarked : List Bool → List ℕ → Type 0
AreMarked used blocks = (b : ℕ) → times b blocks ≤ marked used b

-- why blocks can't be marked: one isn't the disk's, or one then has two uses
abbrev pub AreTaken : MountFault → List Bool → List ℕ → Type 0
AreTaken BlockRange used blocks = Any (λ b. length used ≤ b) blocks
AreTaken BlockTwice used blocks = (b : ℕ) × (2 ≤ marked used b + times b blocks)
AreTaken _ used blocks = ⊥

-- blocks are marked, each of which wasn't, as often as they are used
pub record MarksBeside (old new : List Bool) (more : ℕ → ℕ) : Type 0 where
  pub len : length new ≡ length old
  pub marks : Marks new (λ b. marked old b + more b)
