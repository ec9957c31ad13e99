-- What becomes of an entry of a part that is found (own).
use Rattle.std.specs.Prelude.{ℕ, ◌<◌, ◌≤◌, ◌==◌, not, Bool, true, false, List, [], ◌∷◌, Option, Some, None, if◌then◌else◌, All, length, slice_index_or, slice_set}
use Rattle.std.specs.List.{list_any}
use Rattle.lfs_block.specs.Disk.{Disk}
use Rattle.lfs_block.specs.declared.mount_fault.MountFault.{MountFault}
use Rattle.lfs_block.specs.declared.mount_fault.MountFault.TheVariants.{BadSkipList, BlockTwice}
use Rattle.lfs_file.specs.Content.{content}
use Rattle.lfs_file.specs.SkipList.{chain_of}
use Rattle.lfs_meta.specs.Body.{StoredBody, Inline, Chain, Directory_at}
use Rattle.lfs_meta.specs.Entry.{StoredEntry}
use Rattle.lfs_meta.specs.declared.kind.Kind.{Kind}
use Rattle.lfs_meta.specs.declared.kind.Kind.TheVariants.{File, Dir, Super}
use Rattle.lfs_salvage.specs.declared.block_use.BlockUse.{BlockUse}
use Rattle.lfs_salvage.specs.declared.block_use.BlockUse.TheVariants as use_of
use Rattle.lfs_salvage.specs.declared.parent.Parent.{Parent}

-- a file that is saved, of the bytes in its entry or of a chain; one that is saved already, elsewhere; what is no file; or a file that isn't
-- saved, for this
pub data FileFate : Type 0 where
  In_entry : FileFate
  In_chain : (head : ℕ) (blocks : List ℕ) (size : ℕ) → FileFate
  Elsewhere : (parent : Parent) → FileFate
  Passed : FileFate
  Lost : (fault : MountFault) → FileFate

-- ---- blocks in use

abbrev pub is_free : BlockUse → Bool
is_free use_of.Free = true
is_free (use_of.Part area call) = false
is_free use_of.Chain = false
is_free (use_of.Head parent size) = false

-- whether a block is in use
abbrev pub is_used : List BlockUse → ℕ → Bool
is_used uses b = not (is_free (slice_index_or uses b use_of.Free))

-- ---- files

-- a file with a chain is saved where none of the chain's blocks is in use; one without isn't
abbrev pub chain_fate : List BlockUse → ℕ → ℕ → Option (List ℕ) → FileFate
chain_fate uses head size None = Lost BadSkipList
chain_fate uses head size (Some blocks) = if list_any (is_used uses) blocks then Lost BlockTwice else In_chain head blocks size

-- by what its head is used for: as the head of a file of as many bytes it is saved already
abbrev pub head_fate : Disk → List BlockUse → ℕ → ℕ → BlockUse → FileFate
head_fate d uses head size use_of.Free = chain_fate uses head size (chain_of d head size)
head_fate d uses head size (use_of.Part area call) = Lost BlockTwice
head_fate d uses head size use_of.Chain = Lost BlockTwice
head_fate d uses head size (use_of.Head parent long) = if long == size then Elsewhere parent else Lost BlockTwice

-- a file of no bytes has no blocks
abbrev pub body_fate : Disk → List BlockUse → StoredBody → FileFate
body_fate d uses (Inline bytes) = In_entry
body_fate d uses (Chain head size) =
    if size == 0 then In_chain head [] size else head_fate d uses head size (slice_index_or uses head use_of.Free)
body_fate d uses (Directory_at first second) = Passed

abbrev pub kind_fate : Disk → List BlockUse → Kind → StoredBody → FileFate
kind_fate d uses File body = body_fate d uses body
kind_fate d uses Dir body = Passed
kind_fate d uses Super body = Passed

-- what becomes of an entry where blocks are used so
abbrev pub fate : Disk → List BlockUse → StoredEntry → FileFate
fate d uses e = kind_fate d uses e.kind e.body

-- ---- what is saved

-- the bytes that are saved of an entry, where a file is
abbrev pub saved_bytes : Disk → StoredBody → FileFate → Option (List ℕ)
saved_bytes d (Inline bytes) In_entry = Some bytes
saved_bytes d (Chain head size) In_entry = None
saved_bytes d (Directory_at first second) In_entry = None
saved_bytes d body (In_chain head blocks size) = Some (content d size blocks)
saved_bytes d body (Elsewhere parent) = None
saved_bytes d body Passed = None
saved_bytes d body (Lost fault) = None

-- blocks become a chain's
abbrev pub uses_by_chain : List BlockUse → List ℕ → List BlockUse
uses_by_chain uses [] = uses
uses_by_chain uses (b ∷ bs) = uses_by_chain (slice_set uses b use_of.Chain) bs

-- so do those of a file that is saved, whose head then has its place and its length; one of no bytes has none
abbrev pub settled : List BlockUse → ℕ → BlockUse → List ℕ → List BlockUse
settled uses head as_head [] = uses
settled uses head as_head (b ∷ bs) = slice_set (uses_by_chain uses (b ∷ bs)) head as_head

-- what blocks are used for behind an entry that stands here
abbrev pub uses_behind : List BlockUse → Parent → FileFate → List BlockUse
uses_behind uses parent In_entry = uses
uses_behind uses parent (In_chain head blocks size) = settled uses head (use_of.Head parent size) blocks
uses_behind uses parent (Elsewhere other) = uses
uses_behind uses parent Passed = uses
uses_behind uses parent (Lost fault) = uses

-- the blocks of a chain are the disk's, and no more than it has
abbrev pub HasFileBlocks : Disk → FileFate → Type 0
HasFileBlocks d In_entry = Unit {0}
HasFileBlocks d (In_chain head blocks size) = All (λ b. b < d.count) blocks × (length blocks ≤ d.count)
HasFileBlocks d (Elsewhere parent) = Unit {0}
HasFileBlocks d Passed = Unit {0}
HasFileBlocks d (Lost fault) = Unit {0}
