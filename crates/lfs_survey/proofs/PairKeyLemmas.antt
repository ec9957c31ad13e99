-- Pairs as numbers in a set.
use Rattle.std.proofs.Common.{◌≡◌, ℕ, Bool, true, false, refl, arith, cond}
use Rattle.std.specs.Prelude.{◌||◌, ◌==◌}
use Rattle.std.specs.BTreeMap.{is_at}
use Rattle.std.specs.Ordering.{nat_cmp, is_eq}
use Rattle.std.specs.declared.cmp.Ordering.{Ordering}
use Rattle.std.specs.declared.cmp.Ordering.TheVariants.{Less, Equal, Greater}
use Rattle.std.proofs.lemmas.Bool.Decides.{nat_tests}
use Rattle.std.proofs.lemmas.Cmp.{ranked}

at_by : (a b : ℕ) (r : Ordering) → r ≡ nat_cmp a b → is_eq r ≡ (a == b)
at_by a b Less is = let lt = ranked a b Less is in grind (arith, nat_tests)
at_by a b Equal is = let same = ranked a b Equal is in grind (arith, nat_tests)
at_by a b Greater is = let gt = ranked a b Greater is in grind (arith, nat_tests)

at_is : (a b : ℕ) → is_at (nat_cmp a) b ≡ (a == b)
at_is a b = at_by a b (nat_cmp a b) refl

or_by : (s t : Bool) → cond s true t ≡ (t || s)
or_by true true = refl
or_by true false = refl
or_by false true = refl
or_by false false = refl
