-- Directories by their first pairs (own).
use Rattle.std.specs.Prelude.{◌≡◌, ℕ, true, false, List, Option, Some, None, All, slice_get}
use Rattle.std.specs.Ordering.{nat_cmp, ordering_then}
use Rattle.std.specs.declared.cmp.Ordering.{Ordering}
use Rattle.std.specs.Map.{lookup}
use Rattle.std.specs.BTreeMap.{is_at}
use Rattle.lfs_meta.specs.Body.{Pair}
use Rattle.lfs_fs.specs.Directory.{Directory, begins_at}

-- pairs by the first block, and then by the second
abbrev pub pair_order : Pair → Pair → Ordering
pair_order p q = ordering_then (nat_cmp p.0 q.0) (nat_cmp p.1 q.1)

-- what a table has under a pair
abbrev pub look_up : {X : Type 0} → Pair → List (Pair × X) → Option X
look_up k table = lookup (is_at (pair_order k)) table

-- where a directory that begins at a pair stands, if one does
abbrev pub StandsAt : List Directory → Pair → Option ℕ → Type 0
StandsAt ds k None = All (λ d. begins_at k d ≡ false) ds
StandsAt ds k (Some i) = (d : Directory) × (slice_get ds i ≡ Some d) × (begins_at k d ≡ true)

-- the table says where each directory stands
abbrev pub IsTableOf : List Directory → List (Pair × ℕ) → Type 0
IsTableOf ds table = (k : Pair) → StandsAt ds k (look_up k table)
