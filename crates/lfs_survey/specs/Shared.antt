-- Blocks with two uses: by what was looked at, and by chains (own).
use Rattle.std.specs.Prelude.{◌≡◌, ◌⊎◌, ◌+◌, ◌≤◌, ℕ, Bool, List, [], Option, None, Some, flat_map, length, slice_get, take, unwrap_or}
use Rattle.std.specs.List.{Any}
use Rattle.lfs_block.specs.Disk.{Disk}
use Rattle.lfs_file.specs.SkipList.{chain_of}
use Rattle.lfs_fs.specs.Used.{marked}
use Rattle.lfs_fs.specs.Uses.{times}
use Rattle.lfs_meta.specs.Body.{StoredBody, Inline, Chain, Directory_at}
use Rattle.lfs_meta.specs.Entry.{StoredEntry}
use Rattle.lfs_survey.specs.AllPlaces.{entry_at_place}
use Rattle.lfs_survey.specs.declared.area.Area.{Area}
use Rattle.lfs_survey.specs.declared.entry_place.EntryPlace.{EntryPlace}

-- the blocks of a file's chain; none where it has no chain
abbrev pub body_chain : Disk → StoredBody → List ℕ
body_chain d (Inline bytes) = []
body_chain d (Chain head size) = unwrap_or (chain_of d head size) []
body_chain d (Directory_at first second) = []

-- those of an entry, where there is one
abbrev pub entry_chain : Disk → Option StoredEntry → List ℕ
entry_chain d None = []
entry_chain d (Some e) = body_chain d e.body

-- those of the entry at a place
abbrev pub chain_at : Disk → List Area → EntryPlace → List ℕ
chain_at d areas p = entry_chain d (entry_at_place areas p)

-- those of the entries at several places
abbrev pub chains : Disk → List Area → List EntryPlace → List ℕ
chains d areas ps = flat_map (chain_at d areas) ps

-- how often a block is used: where it was looked at, and by the chains of the entries at these places
abbrev pub uses_of : Disk → List Bool → List Area → List EntryPlace → ℕ → ℕ
uses_of d looked areas ps b = marked looked b + times b (chains d areas ps)

-- The first place whose entry's chain has a block that was looked at, or that the chain of an entry before it has, or one past the table;
-- where there is none, no block has two uses.
abbrev pub IsFirstShared : Disk → List Bool → List Area → List EntryPlace → Option EntryPlace → Type 0
IsFirstShared d looked areas ps None = (b : ℕ) → uses_of d looked areas ps b ≤ 1
IsFirstShared d looked areas ps (Some p) = (i : ℕ) × (slice_get ps i ≡ Some p) × ((b : ℕ) → uses_of d looked areas (take i ps) b ≤ 1)
    × (((b : ℕ) × (2 ≤ uses_of d looked areas (take (i + 1) ps) b)) ⊎ Any (λ b. length looked ≤ b) (chain_at d areas p))
