-- The chain of a file: its blocks from block 0 on, of which each names blocks before it, and the file's entry the last
-- one, its head (DESIGN.md, "CTZ skip-lists").
use Rattle.std.specs.Prelude.{◌≡◌, ◌≢◌, ℕ, zero, suc, ◌-◌, ◌^◌, ◌<◌, ◌==◌, nat_lt, Bool, false, not, ◌&&◌, ◌||◌, if◌then◌else◌, List, []}
use Rattle.std.specs.Prelude.{◌∷◌, ◌++◌, length, Option, Some, None, All, AllPairs, slice_index, slice_get}
use Rattle.std.specs.List.{list_all, range_with_len}
use Rattle.lfs_block.specs.Disk.{Disk, block_of}
use Rattle.lfs_block.specs.declared.mount_fault.MountFault.{MountFault}
use Rattle.lfs_block.specs.declared.mount_fault.MountFault.TheVariants.{BadSkipList, Memory}
use Rattle.lfs_file.specs.Capacity.{IsLeast, least_blocks, pointers}
use Rattle.lfs_file.specs.Pointer.{pointer}

-- the blocks are those of a file of len bytes with this head
pub record IsChain (d : Disk) (head len : ℕ) (blocks : List ℕ) : Type 0 where
  pub least : IsLeast d.size len (length blocks)
  pub last : 0 < length blocks → slice_get blocks (length blocks - 1) ≡ Some head
  pub below : All (λ b. b < d.count) blocks
  pub apart : AllPairs ◌≢◌ blocks
  -- pointer i of block n names the block 2 ^ i before it
  pub back : (n i : ℕ) → 0 < n → n < length blocks → i < pointers n → pointer (block_of d (slice_index blocks n)) i
      ≡ slice_index blocks (n - 2 ^ i)

-- n blocks, of which the last is this one, and each names the one before it by its first pointer (own)
unfoldable pub walk : Disk → ℕ → ℕ → List ℕ
walk d block zero = []
walk d block (suc n) = walk d (pointer (block_of d block) 0) n ++ block ∷ []

-- each pointer of block n names the block that it has to (own)
unfoldable pub points_back : Disk → List ℕ → ℕ → Bool
points_back d blocks n = list_all (λ i. pointer (block_of d (slice_index blocks n)) i == slice_index blocks (n - 2 ^ i))
    (range_with_len 0 (pointers n))

-- block n is on the disk, is block 0 only where n is 0, and points back as it has to (own)
unfoldable pub is_linked_at : Disk → List ℕ → ℕ → Bool
is_linked_at d blocks n =
    nat_lt (slice_index blocks n) d.count && (n == 0 || not (slice_index blocks n == slice_index blocks 0)) && points_back d blocks n

-- every block is so (own): no block stands twice then, since two equal blocks have equal blocks before them, down to block 0
unfoldable pub is_linked : Disk → List ℕ → Bool
is_linked d blocks = list_all (is_linked_at d blocks) (range_with_len 0 (length blocks))

-- the chain of a file of len bytes with this head, if there is one (own)
unfoldable pub chain_of : Disk → ℕ → ℕ → Option (List ℕ)
chain_of d head len =
    let blocks = walk d head (least_blocks d.size len) in
    if is_linked d blocks then Some blocks else None

-- why no chain is given: there is none, or memory is refused (own)
abbrev pub ChainCause : MountFault → Disk → ℕ → ℕ → Type 0
ChainCause BadSkipList d head len = (chain_of d head len ≡ None) × ((blocks : List ℕ) → ¬ IsChain d head len blocks)
ChainCause Memory d head len = Unit {0}
ChainCause _ d head len = ⊥

-- why no walk is given: one of its blocks is not on the disk, or memory is refused (own)
abbrev pub ChainWalkCause : MountFault → Disk → ℕ → ℕ → Type 0
ChainWalkCause BadSkipList d block n = is_linked d (walk d block n) ≡ false
ChainWalkCause Memory d block n = Unit {0}
ChainWalkCause _ d block n = ⊥
