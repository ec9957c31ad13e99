-- What is saved of entries is what they say, and what is lost has a cause (own).
use Rattle.std.specs.Prelude.{◌≡◌, ◌⊎◌, ℕ, true, List, Some, None, Contains}
use Rattle.lfs_block.specs.Disk.{Disk}
use Rattle.lfs_block.specs.declared.mount_fault.MountFault.{MountFault}
use Rattle.lfs_block.specs.declared.mount_fault.MountFault.TheVariants.{BadSkipList, BlockTwice}
use Rattle.lfs_file.specs.Content.{content}
use Rattle.lfs_file.specs.SkipList.{chain_of}
use Rattle.lfs_meta.specs.Body.{StoredBody, Inline, Chain, Directory_at}
use Rattle.lfs_meta.specs.Entry.{StoredEntry}
use Rattle.lfs_meta.specs.declared.kind.Kind.TheVariants.{File}
use Rattle.lfs_salvage.specs.Fate.{Lost, fate, is_used, saved_bytes}
use Rattle.lfs_salvage.specs.declared.block_use.BlockUse.{BlockUse}

-- what a file's body says that it has: its bytes, or the contents of its chain
abbrev pub ShowsBody : Disk → StoredBody → List ℕ → Type 0
ShowsBody d (Inline stored) bytes = bytes ≡ stored
ShowsBody d (Chain head size) bytes = (blocks : List ℕ) × (chain_of d head size ≡ Some blocks) × (bytes ≡ content d size blocks)
ShowsBody d (Directory_at first second) bytes = ⊥

-- the law: what is saved of an entry is a file's, and has the bytes that its body says
abbrev pub SavedAreShown : Type 0
SavedAreShown = (d : Disk) (uses : List BlockUse) (e : StoredEntry) (bytes : List ℕ) → saved_bytes d e.body (fate d uses e) ≡ Some bytes
    → (e.kind ≡ File) × ShowsBody d e.body bytes

-- why a file isn't saved: it has no chain, or its last block is in use, or another one of its chain
abbrev pub IsLostFor : Disk → List BlockUse → MountFault → StoredBody → Type 0
IsLostFor d uses BadSkipList (Chain head size) = chain_of d head size ≡ None
IsLostFor d uses BlockTwice (Chain head size) = (is_used uses head ≡ true)
    ⊎ ((blocks : List ℕ) × (b : ℕ) × (chain_of d head size ≡ Some blocks) × Contains blocks b × (is_used uses b ≡ true))
IsLostFor d uses fault body = ⊥

-- the law: what is lost is a file's, and the cause holds
abbrev pub LostHaveACause : Type 0
LostHaveACause = (d : Disk) (uses : List BlockUse) (e : StoredEntry) (fault : MountFault) → fate d uses e ≡ Lost fault
    → (e.kind ≡ File) × IsLostFor d uses fault e.body
