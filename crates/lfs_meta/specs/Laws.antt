-- Laws of pairs and names.
use Rattle.std.specs.Prelude.{◌≡◌, ◌↔◌, ℕ, ◌<◌, true, List, Some, None}
use Rattle.lfs_block.specs.Disk.{Disk, block_of}
use Rattle.lfs_block.specs.declared.mount_fault.MountFault.{MountFault}
use Rattle.lfs_meta.specs.Body.{Pair}
use Rattle.lfs_meta.specs.Name.{Name, IsName, is_name}
use Rattle.lfs_meta.specs.LiveBlock.{live_block, tags_of, part_of, stored_part_of}
use Rattle.lfs_meta.specs.declared.live_block.LiveBlock.{LiveBlock}
use Rattle.lfs_meta.specs.declared.live_block.LiveBlock.TheVariants.{First, Second, Neither}
use Rattle.lfs_meta.specs.Cause.{PairCause}
use Rattle.lfs_tag.specs.LogSeen.{log_seen}

-- the test of a name says whether it is one
abbrev pub NamesAreDecided : Type 0
NamesAreDecided = (n : Name) → (is_name n ≡ true) ↔ IsName n

-- two disks have the same blocks at a pair
abbrev pub SameBlocks : Disk → Disk → Pair → Type 0
SameBlocks d e pair = (block_of d pair.0 ≡ block_of e pair.0) × (block_of d pair.1 ≡ block_of e pair.1)

-- what a pair holds depends on its two blocks alone
abbrev pub PartsDependOnTheirBlocks : Type 0
PartsDependOnTheirBlocks = (d e : Disk) (pair : Pair) → SameBlocks d e pair
    → (tags_of d pair ≡ tags_of e pair) × (part_of d pair ≡ part_of e pair) × (stored_part_of d pair ≡ stored_part_of e pair)

-- a pair that has a cause holds no part
abbrev pub UnreadPairsHoldNoPart : Type 0
UnreadPairsHoldNoPart = (fault : MountFault) (d : Disk) (pair : Pair) → PairCause fault d pair → stored_part_of d pair ≡ None

-- the live block of two has a commit, and its log is what is read of it; where neither is live, neither has one
abbrev pub IsLive : LiveBlock → List ℕ → List ℕ → Type 0
IsLive (First log) first second = (log ≡ log_seen first) × (0 < log.commits)
IsLive (Second log) first second = (log ≡ log_seen second) × (0 < log.commits)
IsLive Neither first second = ((log_seen first).commits ≡ 0) × ((log_seen second).commits ≡ 0)

abbrev pub LiveBlocksAreRead : Type 0
LiveBlocksAreRead = (first second : List ℕ) → IsLive (live_block first second) first second
