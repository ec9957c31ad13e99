-- A table of the first pairs that have blocks.
use Rattle.std.proofs.Common.{◌≡◌, ℕ, ◌==◌, Bool, true, false, List, ◌∷◌, Option, Some, refl, ap, ◌∙◌}
use Rattle.std.specs.Prelude.{◌||◌, cond}
use Rattle.std.specs.BTreeMap.{is_at}
use Rattle.std.specs.Map.{lookup}
use Rattle.std.specs.Ordering.{nat_cmp}
use Rattle.std.proofs.lemmas.Bool.Decides.{nat_tests}
use Rattle.std.proofs.Common.{arith}
use Rattle.lfs_meta.specs.Body.{Pair}
use Rattle.lfs_settle.specs.InStep.{first_with}
use Rattle.lfs_settle.specs.Steps.{FindsFirst}

at_block : (k b : ℕ) → is_at (nat_cmp k) b ≡ (b == k)
at_block k b = grind (arith, nat_tests)

either_block : (s t : Bool) (p : Pair) (o : Option Pair) → cond t (Some p) (cond s (Some p) o) ≡ cond (s || t) (Some p) o
either_block true true p o = refl
either_block true false p o = refl
either_block false true p o = refl
either_block false false p o = refl

-- one pair more before the others
pub finds_more : (p : Pair) (named : List Pair) (table between after : List (ℕ × Pair)) → FindsFirst named table
    → ((b : ℕ) → lookup (is_at (nat_cmp b)) between ≡ cond (is_at (nat_cmp p.0) b) (Some p) (lookup (is_at (nat_cmp b)) table))
    → ((b : ℕ) → lookup (is_at (nat_cmp b)) after ≡ cond (is_at (nat_cmp p.1) b) (Some p) (lookup (is_at (nat_cmp b)) between))
    → FindsFirst (p ∷ named) after
finds_more p named table between after finds first second b =
    second b
    ∙ ap (λ (t : Bool). cond t (Some p) (lookup (is_at (nat_cmp b)) between)) (at_block p.1 b)
    ∙ ap (λ (o : Option Pair). cond (b == p.1) (Some p) o) (first b)
    ∙ ap (λ (t : Bool). cond (b == p.1) (Some p) (cond t (Some p) (lookup (is_at (nat_cmp b)) table))) (at_block p.0 b)
    ∙ ap (λ (o : Option Pair). cond (b == p.1) (Some p) (cond (b == p.0) (Some p) o)) (finds b)
    ∙ either_block (b == p.0) (b == p.1) p (first_with named b)
