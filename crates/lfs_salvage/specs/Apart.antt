-- That no block is saved twice (own).
use Rattle.std.specs.Prelude.{◌≡◌, ◌≢◌, ◌+◌, ◌<◌, ℕ, true, false, List, [], ◌∷◌, ◌++◌, Some, All, AllPairs, length, slice_get}
use Rattle.lfs_block.specs.Disk.{Disk, IsDisk}
use Rattle.lfs_meta.specs.Body.{Pair}
use Rattle.lfs_meta.specs.Entry.{StoredEntry}
use Rattle.lfs_meta.specs.Part.{StoredPart}
use Rattle.lfs_salvage.specs.AreaMade.{area_uses, uses_by_entry, found_uses, call_parent}
use Rattle.lfs_salvage.specs.Fate.{FileFate, In_entry, In_chain, Elsewhere, Passed, Lost, fate, is_used}
use Rattle.lfs_salvage.specs.PartsUsed.{uses_at_first}
use Rattle.lfs_salvage.specs.declared.block_use.BlockUse.{BlockUse}
use Rattle.lfs_survey.specs.declared.area.Area.{Area}
use Rattle.lfs_survey.specs.declared.found.Found.{Found}
use Rattle.lfs_survey.specs.declared.found.Found.TheVariants.{Part, Refused}

-- the blocks of the chain that is saved
abbrev pub fate_blocks : FileFate → List ℕ
fate_blocks In_entry = []
fate_blocks (In_chain head blocks size) = blocks
fate_blocks (Elsewhere parent) = []
fate_blocks Passed = []
fate_blocks (Lost fault) = []

-- those of entries, of what is found at calls, and of an area, in order
abbrev pub entries_blocks : Disk → List BlockUse → ℕ → ℕ → ℕ → List StoredEntry → List ℕ
entries_blocks d uses area call index [] = []
entries_blocks d uses area call index (e ∷ es) =
    fate_blocks (fate d uses e) ++ entries_blocks d (uses_by_entry d uses (call_parent area call index) e) area call (index + 1) es

abbrev pub found_blocks : Disk → List BlockUse → ℕ → ℕ → Found → List ℕ
found_blocks d uses area call (Part p) = entries_blocks d uses area call 0 p.1.entries
found_blocks d uses area call (Refused fault) = []

abbrev pub calls_blocks : Disk → List BlockUse → ℕ → ℕ → List Found → List ℕ
calls_blocks d uses area call [] = []
calls_blocks d uses area call (f ∷ fs) =
    found_blocks d uses area call f ++ calls_blocks d (found_uses d uses area call f) area (call + 1) fs

abbrev pub area_blocks : Disk → ℕ → List BlockUse → Area → List ℕ
area_blocks d number uses a = calls_blocks d uses number 0 a.found.items

-- blocks are taken into use, none of them twice, and none that was; what was in use stays so
pub record TakesBlocks (before after : List BlockUse) (blocks : List ℕ) : Type 0 where
  pub apart : AllPairs ◌≢◌ blocks
  pub fresh : All (λ b. is_used before b ≡ false) blocks
  pub taken : All (λ b. is_used after b ≡ true) blocks
  pub stays : (b : ℕ) → is_used before b ≡ true → is_used after b ≡ true

-- the law: so are those of the chains that are saved of an area
abbrev pub ChainsAreApart : Type 0
ChainsAreApart = (d : Disk) (number : ℕ) (uses : List BlockUse) (a : Area) → IsDisk d → length uses ≡ d.count
    → TakesBlocks uses (area_uses d number uses a) (area_blocks d number uses a)

-- the law: at first those of the parts that are found are in use
abbrev pub PartsAreInUse : Type 0
PartsAreInUse = (count : ℕ) (areas : List Area) (i j : ℕ) (a : Area) (p : Pair × StoredPart) → slice_get areas i ≡ Some a
    → slice_get a.found.items j ≡ Some (Part p) → p.0.0 < count → p.0.1 < count
    → (is_used (uses_at_first count areas) p.0.0 ≡ true) × (is_used (uses_at_first count areas) p.0.1 ≡ true)
