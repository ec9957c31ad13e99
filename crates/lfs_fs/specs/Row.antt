-- The rows of a volume: each path once, with the entry that stands there, in the order of paths (own).
use Rattle.std.specs.Prelude.{◌≡◌, Bool, true, false, List, [], ◌∷◌, Option, Some, if◌then◌else◌, bytes_eq, All, Contains}
use Rattle.lfs_fs.specs.NameOrder.{precedes, IsStrictOrder}
use Rattle.lfs_fs.specs.Path.{Path}
use Rattle.lfs_fs.specs.Entry.{Entry}

-- a path comes before its extensions; else by the first name in which two differ
abbrev pub path_precedes : Path → Path → Bool
path_precedes [] [] = false
path_precedes [] (m ∷ q) = true
path_precedes (n ∷ p) [] = false
path_precedes (n ∷ p) (m ∷ q) = if bytes_eq n m then path_precedes p q else precedes n m

-- the law: paths are in a strict total order
abbrev pub PathsAreOrdered : Type 0
PathsAreOrdered = IsStrictOrder path_precedes

-- a path with the entry that stands there
pub record Row : Type 0 where
  pub path : Path
  pub entry : Entry

-- each path comes before all later ones
abbrev pub RowsRise : List Row → Type 0
RowsRise [] = Unit {0}
RowsRise (r ∷ rs) = All (λ s. path_precedes r.path s.path ≡ true) rs × RowsRise rs

-- rows of all entries, and of nothing else
pub record AreRows (at : Path → Option Entry) (rows : List Row) : Type 0 where
  pub rise : RowsRise rows
  pub right : All (λ r. at r.path ≡ Some r.entry) rows
  pub complete : (p : Path) (e : Entry) → at p ≡ Some e → Contains rows (record { path = p; entry = e })

-- the law: one list has the rows of a map from paths
abbrev pub RowsAreUnique : Type 0
RowsAreUnique = (at : Path → Option Entry) (rows others : List Row) → AreRows at rows → AreRows at others → rows ≡ others
