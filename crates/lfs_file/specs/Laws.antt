-- What holds of every chain (own).
use Rattle.std.specs.Prelude.{◌≡◌, ◌≢◌, ℕ, ◌<◌, ◌≤◌, List, [], length, Some, All, AllPairs}
use Rattle.lfs_block.specs.Bytes.{IsBytes}
use Rattle.lfs_block.specs.Disk.{Disk, IsDisk, block_of}
use Rattle.lfs_block.specs.Geometry.{IsBlockSize}
use Rattle.lfs_file.specs.Capacity.{IsLeast, least_blocks}
use Rattle.lfs_file.specs.Content.{content}
use Rattle.lfs_file.specs.Laying.{IsLaid, laid}
use Rattle.lfs_file.specs.SkipList.{IsChain, chain_of}

-- `least_blocks` is the least number of blocks, for every block size that is no less than 8 bytes
abbrev pub LeastIsLeast : Type 0
LeastIsLeast = (size len : ℕ) → 8 ≤ size → IsLeast size len (least_blocks size len)

-- there is no other
abbrev pub LeastIsOne : Type 0
LeastIsOne = (size len m n : ℕ) → IsLeast size len m → IsLeast size len n → m ≡ n

-- every chain is the one that `chain_of` gives
abbrev pub ChainsAreFound : Type 0
ChainsAreFound = (d : Disk) (head len : ℕ) (blocks : List ℕ) → IsDisk d → IsChain d head len blocks → chain_of d head len ≡ Some blocks

-- what `chain_of` gives is a chain
abbrev pub FoundAreChains : Type 0
FoundAreChains = (d : Disk) (head len : ℕ) (blocks : List ℕ) → IsDisk d → chain_of d head len ≡ Some blocks → IsChain d head len blocks

-- a file of no bytes has the chain of no blocks, whatever its head
abbrev pub EmptyIsFound : Type 0
EmptyIsFound = (d : Disk) (head : ℕ) → chain_of d head 0 ≡ Some []

-- a file has one chain at most
abbrev pub ChainsAreOne : Type 0
ChainsAreOne = (d : Disk) (head len : ℕ) (these those : List ℕ) → IsDisk d → IsChain d head len these → IsChain d head len those
    → these ≡ those

-- the blocks of a chain are on the disk, and differ
abbrev pub ChainsDiffer : Type 0
ChainsDiffer = (d : Disk) (head len : ℕ) (blocks : List ℕ) → IsDisk d → chain_of d head len ≡ Some blocks
    → All (λ b. b < d.count) blocks × AllPairs ◌≢◌ blocks

-- a chain has no more blocks than the disk
abbrev pub ChainsFit : Type 0
ChainsFit = (d : Disk) (head len : ℕ) (blocks : List ℕ) → IsChain d head len blocks → length blocks ≤ d.count

-- two disks of one block size, of which the second has no fewer blocks, with the same bytes in each of these blocks
pub record AgreeOn (blocks : List ℕ) (d e : Disk) : Type 0 where
  pub size : d.size ≡ e.size
  pub count : d.count ≤ e.count
  pub same : All (λ b. block_of d b ≡ block_of e b) blocks

-- a chain depends on its own blocks alone
abbrev pub ChainsStay : Type 0
ChainsStay = (d e : Disk) (head len : ℕ) (blocks : List ℕ) → AgreeOn blocks d e → IsChain d head len blocks → IsChain e head len blocks

-- and so does what `chain_of` finds
abbrev pub FoundStay : Type 0
FoundStay = (d e : Disk) (head len : ℕ) (blocks : List ℕ) → IsDisk d → AgreeOn blocks d e
    → chain_of d head len ≡ Some blocks → chain_of e head len ≡ Some blocks

-- and the content of its file
abbrev pub ContentStays : Type 0
ContentStays = (d e : Disk) (len : ℕ) (blocks : List ℕ) → AgreeOn blocks d e → content d len blocks ≡ content e len blocks

-- the content of a file has the file's length
abbrev pub ContentHasLength : Type 0
ContentHasLength = (d : Disk) (head len : ℕ) (blocks : List ℕ) → IsDisk d → IsChain d head len blocks → length (content d len blocks) ≡ len

-- there are as many laid blocks as numbers of blocks
abbrev pub LaidAreAsMany : Type 0
LaidAreAsMany = (size : ℕ) (bytes blocks : List ℕ) → length (laid size bytes blocks) ≡ length blocks

-- each of them has the block size
abbrev pub LaidAreComplete : Type 0
LaidAreComplete = (size : ℕ) (bytes blocks : List ℕ) → IsBlockSize size → All (λ block. length block ≡ size) (laid size bytes blocks)

-- they are bytes
abbrev pub LaidAreBytes : Type 0
LaidAreBytes = (size : ℕ) (bytes blocks : List ℕ) → IsBytes bytes → All IsBytes (laid size bytes blocks)

-- laid blocks are a chain of the file
abbrev pub LaidIsChain : Type 0
LaidIsChain = (d : Disk) (head : ℕ) (bytes blocks : List ℕ) → IsDisk d → IsLaid d head bytes blocks → IsChain d head (length bytes) blocks

-- they are the chain that is found
abbrev pub LaidIsFound : Type 0
LaidIsFound = (d : Disk) (head : ℕ) (bytes blocks : List ℕ) → IsDisk d → IsLaid d head bytes blocks
    → chain_of d head (length bytes) ≡ Some blocks

-- and its content is the bytes
abbrev pub LaidIsContent : Type 0
LaidIsContent = (d : Disk) (head : ℕ) (bytes blocks : List ℕ) → IsDisk d → IsLaid d head bytes blocks
    → content d (length bytes) blocks ≡ bytes
