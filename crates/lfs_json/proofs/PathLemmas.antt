-- The text of a path, name by name.
use Rattle.std.proofs.Common.{◌≡◌, ℕ, ◌+◌, ◌<◌, List, [], ◌∷◌, ◌++◌, ap, sym, ◌∙◌, map, take, get_or, length, flat_map, append-nil, append_assoc}
use Rattle.std.specs.Borrow.{Bor}
use Rattle.std.proofs.lemmas.List.{take_more}

-- names, each behind a slash
abbrev pub slashed : List (Bor (List ℕ)) → List ℕ
slashed names = flat_map (λ m. 47 ∷ m) (map (λ n. n.now) names)

slashed_then : (names : List (Bor (List ℕ))) (name : Bor (List ℕ)) → slashed (names ++ name ∷ []) ≡ slashed names ++ 47 ∷ name.now
slashed_then [] name = append-nil (47 ∷ name.now)
slashed_then (first ∷ names) name =
    ap (λ (t : List ℕ). (47 ∷ first.now) ++ t) (slashed_then names name)
    ∙ sym (append_assoc (47 ∷ first.now) (slashed names) (47 ∷ name.now))

-- one name more is added
pub names_more : (text slash new : List ℕ) (names : List (Bor (List ℕ))) (i : ℕ) (d : Bor (List ℕ)) → i < length names
    → text ≡ slashed (take i names) → slash ≡ text ++ 47 ∷ [] → new ≡ slash ++ (get_or names i d).now → new ≡ slashed (take (i + 1) names)
names_more text slash new names i d within is is' is'' =
    let name : Bor (List ℕ) = get_or names i d in
    is'' ∙ ap (λ (t : List ℕ). t ++ name.now) (is' ∙ ap (λ (t : List ℕ). t ++ 47 ∷ []) is)
    ∙ append_assoc (slashed (take i names)) (47 ∷ []) name.now
    ∙ sym (slashed_then (take i names) name) ∙ ap slashed (sym (take_more names i d within))
