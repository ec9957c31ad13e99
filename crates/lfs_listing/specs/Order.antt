-- Which rows come first (own).
use Rattle.std.specs.Prelude.{List, [], ◌∷◌, if◌then◌else◌}
use Rattle.std.specs.declared.cmp.Ordering.{Ordering}
use Rattle.std.specs.declared.cmp.Ordering.TheVariants.{Less, Equal, Greater}
use Rattle.lfs_meta.specs.Name.{Name}
use Rattle.lfs_fs.specs.NameOrder.{precedes}
use Rattle.lfs_fs.specs.Path.{Path}
use Rattle.lfs_fs.specs.Row.{Row, path_precedes}

-- which of two names comes first
abbrev pub name_order : Name → Name → Ordering
name_order n m = if precedes m n then Greater else (if precedes n m then Less else Equal)

-- which of two paths
abbrev pub path_order : Path → Path → Ordering
path_order p q = if path_precedes q p then Greater else (if path_precedes p q then Less else Equal)

-- whose first row comes first; of no rows it never does
abbrev pub rows_order : List Row → List Row → Ordering
rows_order [] bs = Greater
rows_order (a ∷ left) [] = Less
rows_order (a ∷ left) (b ∷ bs) = path_order a.path b.path
