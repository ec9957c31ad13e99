-- The pairs that entries name, in a table under their blocks (own).
use Rattle.std.specs.Prelude.{◌≡◌, ℕ, List}
use Rattle.std.specs.BTreeMap.{is_at}
use Rattle.std.specs.Map.{lookup}
use Rattle.std.specs.Ordering.{nat_cmp}
use Rattle.lfs_meta.specs.Body.{Pair}
use Rattle.lfs_settle.specs.InStep.{first_with}

-- under each block stands the first pair that has it
abbrev pub FindsFirst : List Pair → List (ℕ × Pair) → Type 0
FindsFirst named table = (b : ℕ) → lookup (is_at (nat_cmp b)) table ≡ first_with named b
