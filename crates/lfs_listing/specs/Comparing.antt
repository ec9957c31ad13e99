-- What is compared of two rows (own).
use Rattle.std.specs.Prelude.{◌≡◌, ◌≢◌, ℕ, ◌<◌, ◌≤◌, Bool, true, false, List, [], ◌∷◌, ◌++◌, Option, Some, None, All, length, bytes_eq}
use Rattle.lfs_block.specs.Disk.{Disk}
use Rattle.lfs_block.specs.Patch.{ChangeSet, AgreesOld, applied}
use Rattle.lfs_file.specs.Content.{content}
use Rattle.lfs_fs.specs.Entry.{Body, Inline, Chain, Directory_at}
use Rattle.lfs_fs.specs.Row.{Row}

-- a patch leads from one disk to another
pub record Leads (p : ChangeSet) (d e : Disk) : Type 0 where
  pub agrees : AgreesOld p d
  pub is : e ≡ applied p d

-- a body can be read: a chain's blocks are the disk's, no more than it has, and hold as many bytes as it says
abbrev pub IsReadable : Disk → Body → Type 0
IsReadable d (Inline bytes) = Unit {0}
IsReadable d (Chain blocks zeros) =
    All (λ b. b < d.count) blocks × (length blocks ≤ d.count) × (length (content d (length zeros) blocks) ≡ length zeros)
IsReadable d (Directory_at pair) = Unit {0}

-- each row's body can be read
abbrev pub AreComplete : Disk → List Row → Type 0
AreComplete d [] = Unit {0}
AreComplete d (r ∷ rs) = IsReadable d r.entry.body × AreComplete d rs

-- a file's bytes; a directory has none
abbrev pub contents_of : Disk → Body → Option (List ℕ)
contents_of d (Inline bytes) = Some bytes
contents_of d (Chain blocks zeros) = Some (content d (length zeros) blocks)
contents_of d (Directory_at pair) = None

-- files with the same bytes, or directories
abbrev pub same_contents : Option (List ℕ) → Option (List ℕ) → Bool
same_contents (Some bytes) (Some others) = bytes_eq bytes others
same_contents None None = true
same_contents (Some bytes) None = false
same_contents None (Some others) = false

-- bytes are taken off from what begins with them; or it begins otherwise
abbrev pub TakesOff : Bool → List ℕ → List ℕ → List ℕ → Type 0
TakesOff true old new bytes = old ≡ bytes ++ new
TakesOff false old new bytes = (rest : List ℕ) → old ≢ bytes ++ rest
