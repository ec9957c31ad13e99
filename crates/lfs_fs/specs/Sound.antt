-- A volume without a fault between its entries (own).
use Rattle.std.specs.Prelude.{ℕ, ◌<◌, ◌≤◌, ◌≡◌, true, List, [], ◌∷◌, All, length, count_by}
use Rattle.lfs_meta.specs.Name.{IsName}
use Rattle.lfs_meta.specs.Attribute.{Attributes}
use Rattle.lfs_meta.specs.Body.{Pair}
use Rattle.lfs_fs.specs.NameOrder.{precedes}
use Rattle.lfs_fs.specs.Pair.{root}
use Rattle.lfs_fs.specs.Entry.{Entry, body_length}
use Rattle.lfs_fs.specs.Directory.{Directory, entries, key, begins_at, thread}
use Rattle.lfs_fs.specs.declared.limits.Limits.{Limits}
use Rattle.lfs_fs.specs.Volume.{Volume}
use Rattle.lfs_fs.specs.Tree.{Reached}
use Rattle.lfs_fs.specs.Uses.{uses}
use Rattle.lfs_fs.specs.Named.{named}
use Rattle.lfs_fs.specs.State.{delta_of}

-- the first directory begins at the root's pair
abbrev pub StartsAtRoot : List Directory → Type 0
StartsAtRoot [] = ⊥
StartsAtRoot (d ∷ ds) = d.first.pair ≡ root

-- each name comes before all later ones
abbrev pub Rise : List Entry → Type 0
Rise [] = Unit {0}
Rise (e ∷ es) = All (λ f. precedes e.name f.name ≡ true) es × Rise es

-- kinds rise strictly, and no value is longer than the limit
abbrev pub AreAttributes : ℕ → Attributes → Type 0
AreAttributes limit [] = Unit {0}
AreAttributes limit (a ∷ more) = (length a.1 ≤ limit) × All (λ (b : ℕ × List ℕ). a.0 < b.0) more × AreAttributes limit more

-- an entry with a name, within the limits
pub record IsProper (limits : Limits) (e : Entry) : Type 0 where
  pub name : IsName e.name
  pub name_fits : length e.name ≤ limits.name
  pub file_fits : body_length e.body ≤ limits.file
  pub attributes : AreAttributes limits.attribute e.attributes

-- a volume without such a fault
pub record IsSound (v : Volume) : Type 0 where
  pub starts : StartsAtRoot v.directories
  -- each directory's names rise strictly
  pub order : All (λ d. Rise (entries d)) v.directories
  pub proper : All (λ d. All (IsProper v.limits) (entries d)) v.directories
  pub root_attributes : AreAttributes v.limits.attribute v.attributes
  -- no block has two uses, and each is one of the volume's
  pub once : (b : ℕ) → uses b v ≤ 1
  pub within : (b : ℕ) → 0 < uses b v → b < v.count
  -- each directory of the thread is named once, and what is named is one
  pub names : (k : Pair) → named k v ≡ count_by (begins_at k) v.directories
  -- each directory of the thread is reached from the root
  pub reached : All (λ d. Reached v (key d)) v.directories
  -- nothing is left unfinished
  pub settled : delta_of (thread v.directories) ≡ 0
