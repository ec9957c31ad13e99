-- One item more of a list that is gone through.
use Rattle.std.proofs.Common.{◌≡◌, ℕ, ◌+◌, ◌<◌, List, [], ◌∷◌, ◌++◌, length, map, take, drop, get_or, ap, sym, ◌∙◌, arith}
use Rattle.std.specs.Prelude.{flat_map}
use Rattle.std.proofs.lemmas.List.{drop_more, flat_map_more, get_or_at, length-map, length-take, take_more}

pub next_taken : {X : Type 0} (xs : List X) (i : ℕ) (x : X) → i < length xs → x ≡ get_or xs i x → take (i + 1) xs ≡ take i xs ++ x ∷ []
next_taken xs i x within at = take_more xs i x within ∙ ap (λ (y : _). take i xs ++ y ∷ []) (sym at)

pub next_flat : {X A : Type 0} (f : X → List A) (bs : List A) (xs : List X) (i : ℕ) (x : X) → i < length xs → x ≡ get_or xs i x
    → (bs ++ flat_map f (take i xs)) ++ f x ≡ bs ++ flat_map f (take (i + 1) xs)
next_flat f bs xs i x within at =
    flat_map_more f bs (take i xs) x ∙ ap (λ (ys : List _). bs ++ flat_map f ys) (sym (next_taken xs i x within at))

-- where the items before a place were changed, the item there is as it was
pub read_over : {X : Type 0} (f : X → X) (xs ys : List X) (i : ℕ) (x : X) → i < length xs → ys ≡ map f (take i xs) ++ drop i xs
    → x ≡ get_or ys i x → x ≡ get_or xs i x
read_over f xs ys i x within changed at =
    let long : length (map f (take i xs)) ≡ i = length-map (take i xs) f ∙ omega (arith, length-take i xs) in
    at
    ∙ ap (λ (zs : List _). get_or zs i x) (changed ∙ ap (λ (zs : List _). map f (take i xs) ++ zs) (drop_more xs i x within))
    ∙ get_or_at (map f (take i xs)) _ _ x i long
