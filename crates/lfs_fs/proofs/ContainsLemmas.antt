-- What is in a list.
use Rattle.std.proofs.Common.{◌≡◌, ◌⊎◌, zero, suc, List, [], ◌∷◌, map, refl, ap, sym, arith, inl, inr, ◌∙◌}
use Rattle.std.specs.List.{Contains}
use Rattle.std.proofs.lemmas.List.{length-map, get_or-map}

pub contains_none : {X : Type 0} (x : X) → Contains [] x → ⊥
contains_none x h = omega arith

pub contains_first : {X : Type 0} (x : X) (xs : List X) → Contains (x ∷ xs) x
contains_first x xs = (0, omega arith, refl)

pub contains_later : {X : Type 0} (y : X) (xs : List X) (x : X) → Contains xs x → Contains (y ∷ xs) x
contains_later y xs x (k, within, is) = (suc k, omega arith, is)

pub contains_cases : {X : Type 0} (y : X) (ys : List X) (x : X) → Contains (y ∷ ys) x → (x ≡ y) ⊎ Contains ys x
contains_cases y ys x (zero, within, is) = inl (sym is)
contains_cases y ys x (suc k, within, is) = inr (k, omega arith, is)

pub contains_mapped : {X Y : Type 0} (f : X → Y) (xs : List X) (x : X) → Contains xs x → Contains (map f xs) (f x)
contains_mapped f xs x (i, within, is) = (i, omega (arith, length-map xs f), get_or-map f xs i x (f x) within ∙ ap f is)
