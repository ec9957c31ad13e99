-- Maps from paths, and how they change (own).
use Rattle.std.specs.Prelude.{Bool, true, false, [], ◌∷◌, ◌++◌, Option, Some, None, ◌&&◌, if◌then◌else◌, bytes_eq}
use Rattle.lfs_fs.specs.Path.{Path}

-- the same names in the same order
abbrev pub same_path : Path → Path → Bool
same_path [] [] = true
same_path (n ∷ p) (m ∷ q) = bytes_eq n m && same_path p q
same_path (n ∷ p) [] = false
same_path [] (m ∷ q) = false

-- what is left of the second path below the first
abbrev pub below : Path → Path → Option Path
below [] path = Some path
below (n ∷ ns) [] = None
below (n ∷ ns) (m ∷ path) = if bytes_eq n m then below ns path else None

-- the map with x at a path
abbrev pub put_at_path : {X : Type 0} → Path → Option X → (Path → Option X) → Path → Option X
put_at_path at x tree path = if same_path at path then x else tree path

-- the value at a path, by what is left of it below where things go to (`away`) and below where they come from
abbrev pub moved_by : {X : Type 0} → Path → (Path → Option X) → Path → Option Path → Option Path → Option X
moved_by from tree path (Some rest) away = tree (from ++ rest)
moved_by from tree path None (Some rest) = None
moved_by from tree path None None = tree path

-- the map with all that is at or below a path moved to another path
abbrev pub moved : {X : Type 0} → Path → Path → (Path → Option X) → Path → Option X
moved from to tree path = moved_by from tree path (below to path) (below from path)
