-- What becomes of a new image on which the commands of rows are carried out (own).
use Rattle.std.specs.Prelude.{◌≡◌, ◌⊎◌, ℕ, ◌+◌, Option, Some, List, []}
use Rattle.std.specs.List.{AllZip}
use Rattle.lfs_meta.specs.Attribute.{Attributes}
use Rattle.lfs_fs.specs.declared.limits.Limits.{Limits}
use Rattle.lfs_fs.specs.Formatted.{empty_volume}
use Rattle.lfs_fs.specs.Outlined.{outlined}
use Rattle.lfs_fs.specs.Path.{Path, IsPathText}
use Rattle.lfs_fs.specs.Table.{IsTableOf}
use Rattle.lfs_fs.specs.Volume.{Volume}
use Rattle.lfs_command.specs.declared.refusal.Refusal.{Refusal}
use Rattle.lfs_command.specs.declared.refusal.Refusal.TheVariants.{Memory}
use Rattle.lfs_command.specs.Command.{Command, SetAttr}
use Rattle.lfs_command.specs.Planned.{CarriesOut}
use Rattle.lfs_command.specs.Verdict.{verdict}
use Rattle.lfs_pack.specs.Lead.{Lead}
use Rattle.lfs_pack.specs.declared.new_image.NewImage.{NewImage}
use Rattle.lfs_pack.specs.declared.pack_row.PackRow.{PackRow}
use Rattle.lfs_pack.specs.Packed.{AreRowsOf, IsRowOf, Packed, commands, making, row_commands, setting}
use Rattle.lfs_pack.specs.Stopped.{AreStopped, IsRowStopped}
use Rattle.lfs_pack.specs.Unwritten.{IsReadyToWrite}

-- The image is at work on a volume, of which it has the outline and the table of used blocks.
pub record IsAtWork (t : NewImage) (v : Volume) : Type 0 where
  pub unwritten : IsReadyToWrite t.image.disk v
  pub outline : t.outline ≡ outlined v
  pub table : IsTableOf t.outline t.used

-- ---- one command

-- it is carried out
abbrev pub CarriesOn : Command → NewImage → NewImage → Type 0
CarriesOn c t u = (v : Volume) → IsAtWork t v → (w : Volume) × CarriesOut c v w × IsAtWork u w

-- or refused, or memory is
abbrev pub RefusesOn : Command → NewImage → Refusal → Type 0
RefusesOn c t r = (r ≡ Memory) ⊎ ((v : Volume) → IsAtWork t v → verdict v c ≡ Some r)

-- ---- attributes of what a text's path has, one after another

-- one of them is set
abbrev pub SetsOne : List ℕ → ℕ × List ℕ → NewImage → NewImage → Type 0
SetsOne text a t u = (p : Path) → IsPathText text p → CarriesOn (SetAttr p a.0 a.1) t u

-- or not, or memory is refused
abbrev pub RefusesOne : List ℕ → ℕ × List ℕ → NewImage → Refusal → Type 0
RefusesOne text a t r = (r ≡ Memory) ⊎ ((p : Path) (v : Volume) → IsPathText text p → IsAtWork t v → verdict v (SetAttr p a.0 a.1) ≡ Some r)

-- all are set
abbrev pub SetsAll : List ℕ → Attributes → NewImage → NewImage → Type 0
SetsAll text attributes t u = (p : Path) (v : Volume) → IsPathText text p → IsAtWork t v
    → (w : Volume) × Lead (setting p attributes) v w × IsAtWork u w

-- or not, or memory is refused
abbrev pub RefusesAll : List ℕ → Attributes → NewImage → Refusal → Type 0
RefusesAll text attributes t r = (r ≡ Memory)
    ⊎ ((p : Path) (v : Volume) → IsPathText text p → IsAtWork t v → AreStopped (setting p attributes) v r)

-- ---- rows

-- what stands at a row's path is made
abbrev pub Places : List ℕ → Option (List ℕ) → ℕ → NewImage → NewImage → Type 0
Places text bytes most t u = (v : Volume) → IsAtWork t v → (p : Path) × IsPathText text p × (w : Volume) × Lead (making p bytes most) v w × IsAtWork u w

-- or not, or memory is refused
abbrev pub RefusesPlace : List ℕ → Option (List ℕ) → ℕ → NewImage → Refusal → Type 0
RefusesPlace text bytes most t r = (r ≡ Memory) ⊎ ((v : Volume) (p : Path) → IsAtWork t v → IsPathText text p → AreStopped (making p bytes most) v r)

-- a row is added
abbrev pub AddsRow : PackRow → NewImage → NewImage → Type 0
AddsRow row t u = (v : Volume) → IsAtWork t v → (r : Packed) × IsRowOf row r × (w : Volume) × Lead (row_commands r) v w × IsAtWork u w

-- or not, or memory is refused
abbrev pub RefusesAdding : PackRow → NewImage → Refusal → Type 0
RefusesAdding row t r = (r ≡ Memory) ⊎ ((v : Volume) (p : Packed) → IsAtWork t v → IsRowOf row p → AreStopped (row_commands p) v r)

-- rows are added, one after another
abbrev pub AddsRows : List PackRow → NewImage → NewImage → Type 0
AddsRows rows t u = (v : Volume) → IsAtWork t v
    → (packed : List Packed) × AllZip IsRowOf rows packed × (w : Volume) × Lead (commands packed) v w × IsAtWork u w

-- Or not, or memory is refused. So many rows stand before them, and so many before the one that is refused.
abbrev pub RefusesRows : List PackRow → NewImage → ℕ → ℕ → Refusal → Type 0
RefusesRows rows t from at r = (r ≡ Memory) ⊎ ((v : Volume) (packed : List Packed) → IsAtWork t v → AllZip IsRowOf rows packed
    → (i : ℕ) × (at ≡ from + i) × IsRowStopped packed v i r)

-- All rows are added to a new image.
pub record PacksRows (size count : ℕ) (limits : Limits) (rows : List PackRow) (t : NewImage) : Type 0 where
  pub is : (v : Volume) × IsAtWork t v
  pub led : (packed : List Packed) → AreRowsOf rows packed
      → (v : Volume) × Lead (commands packed) (empty_volume size count limits []) v × IsAtWork t v
