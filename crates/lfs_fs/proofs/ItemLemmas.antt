-- Items of lists.
use Rattle.std.proofs.Common.{◌≡◌, ℕ, ◌+◌, ◌<◌, List, [], ◌∷◌, refl, arith, length, drop, get_or, ap, sym, ◌∙◌, drop-cons, add-one, suc}

-- what is left from an item on
pub drop_at : {X : Type 0} (xs : List X) (i : ℕ) (x : X) → i < length xs → x ≡ get_or xs i x → drop i xs ≡ x ∷ drop (i + 1) xs
drop_at xs i x within is = drop-cons xs i x within ∙ ap (λ y. y ∷ drop (suc i) xs) (sym is) ∙ ap (λ n. x ∷ drop n xs) (sym (add-one i))

-- a list of no elements
pub no_elements : {X : Type 0} (xs : List X) → length xs ≡ 0 → xs ≡ []
no_elements [] none = refl
no_elements (x ∷ xs) none = absurd (omega arith)
