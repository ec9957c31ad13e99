-- Pairs that are looked at once: which blocks are looked at, and what is found (own).
use Rattle.std.specs.Prelude.{◌≡◌, ◌<◌, ◌≤◌, ◌⊎◌, ◌==◌, ◌&&◌, ℕ, not, Bool, true, false, List, Some, if◌then◌else◌, slice_index_or, slice_set}
use Rattle.lfs_block.specs.Disk.{Disk}
use Rattle.lfs_block.specs.declared.mount_fault.MountFault.{MountFault}
use Rattle.lfs_block.specs.declared.mount_fault.MountFault.TheVariants.{BlockRange, BlockTwice}
use Rattle.lfs_meta.specs.Body.{Pair}
use Rattle.lfs_meta.specs.Cause.{PairCause}
use Rattle.lfs_meta.specs.LiveBlock.{stored_part_of}
use Rattle.lfs_survey.specs.declared.found.Found.{Found}
use Rattle.lfs_survey.specs.declared.found.Found.TheVariants.{Part, Refused}

-- both blocks of a pair are the table's, and weren't looked at
abbrev pub is_open : List Bool → Pair → Bool
is_open looked pair = not (slice_index_or looked pair.0 true) && not (slice_index_or looked pair.1 true)

-- a pair's blocks are looked at
abbrev pub looked_at : List Bool → Pair → List Bool
looked_at looked pair =
    if pair.0 == pair.1 then slice_set looked pair.0 true
    else slice_set (slice_set looked pair.0 true) pair.1 true

-- the same where the pair is open; another one is turned away
abbrev pub looked_behind : List Bool → Pair → List Bool
looked_behind looked pair = if is_open looked pair then looked_at looked pair else looked

-- what was looked at stays so
abbrev pub Grows : List Bool → List Bool → Type 0
Grows old new = (b : ℕ) → slice_index_or old b true ≡ true → slice_index_or new b true ≡ true

-- why a pair that isn't open is turned away, of so many blocks: one isn't among them, or else one was looked at before
abbrev pub IsTurned : ℕ → Pair → MountFault → Type 0
IsTurned count pair BlockRange = (count ≤ pair.0) ⊎ (count ≤ pair.1)
IsTurned count pair BlockTwice = (pair.0 < count) × (pair.1 < count)
IsTurned count pair _ = ⊥

-- why a pair isn't read: a block isn't the image's; or both are, and one was looked at before; or none was, and it holds no part, for this
-- cause
abbrev pub IsRefused : Disk → List Bool → Pair → MountFault → Type 0
IsRefused d looked pair BlockRange = (d.count ≤ pair.0) ⊎ (d.count ≤ pair.1)
IsRefused d looked pair BlockTwice = (pair.0 < d.count) × (pair.1 < d.count) × (is_open looked pair ≡ false)
IsRefused d looked pair fault = (is_open looked pair ≡ true) × PairCause fault d pair

-- what is found at a pair is right: it is open and holds this part, or it isn't read for this
abbrev pub IsFound : Disk → List Bool → Pair → Found → Type 0
IsFound d looked pair (Part p) = (is_open looked pair ≡ true) × (p.0 ≡ pair) × (stored_part_of d pair ≡ Some p.1)
IsFound d looked pair (Refused fault) = IsRefused d looked pair fault
