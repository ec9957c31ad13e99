-- A text to which each item adds its own.
use Rattle.std.proofs.Common.{◌≡◌, ℕ, ◌+◌, ◌<◌, ◌≤◌, List, [], ◌∷◌, ◌++◌, ap, sym, ◌∙◌, arith, drop, length, map, take, get_or, flat_map}
use Rattle.std.proofs.Common.{append-nil, append_assoc}
use Rattle.std.specs.Borrow.{Bor}
use Rattle.std.proofs.lemmas.Grind.{flat_map-append}
use Rattle.std.proofs.lemmas.List.{drop_all, flat_map_more, take_all, take_more}
use Rattle.lfs_listing.specs.Listing.{shown_byte}

-- one more has added it
pub flat_more : {A : Type 0} (f : A → List ℕ) (old text new : List ℕ) (xs : List A) (i : ℕ) (d x : A) → i < length xs → x ≡ get_or xs i d
    → text ≡ old ++ flat_map f (take i xs) → new ≡ text ++ f x → new ≡ old ++ flat_map f (take (i + 1) xs)
flat_more {A} f old text new xs i d x within item is is' =
    is' ∙ ap (λ (t : List ℕ). t ++ f x) is
    ∙ flat_map_more f old (take i xs) x
    ∙ ap (λ (y : A). old ++ flat_map f (take i xs ++ y ∷ [])) item
    ∙ ap (λ (ys : List A). old ++ flat_map f ys) (sym (take_more xs i d within))

-- all have
pub flat_all : {A : Type 0} (f : A → List ℕ) (old text : List ℕ) (xs : List A) (i : ℕ) → length xs ≤ i
    → text ≡ old ++ flat_map f (take i xs) → text ≡ old ++ flat_map f xs
flat_all {A} f old text xs i past is = is ∙ ap (λ (ys : List A). old ++ flat_map f ys) (take_all i xs past)

-- names as they are shown, each behind a slash
abbrev pub shown_names : List (Bor (List ℕ)) → List ℕ
shown_names names = flat_map shown_byte (flat_map (λ m. 47 ∷ m) (map (λ n. n.now) names))

names_then : (names : List (Bor (List ℕ))) (name : Bor (List ℕ))
    → shown_names (names ++ name ∷ []) ≡ shown_names names ++ flat_map shown_byte (47 ∷ name.now)
names_then [] name = ap (λ (m : List ℕ). flat_map shown_byte (47 ∷ m)) (append-nil name.now)
names_then (first ∷ names) name =
    let front : List ℕ = flat_map shown_byte (47 ∷ first.now) in
    flat_map-append shown_byte (47 ∷ first.now) (flat_map (λ m. 47 ∷ m) (map (λ n. n.now) (names ++ name ∷ [])))
    ∙ ap (λ (t : List ℕ). front ++ t) (names_then names name)
    ∙ sym (append_assoc front (shown_names names) (flat_map shown_byte (47 ∷ name.now)))
    ∙ ap (λ (t : List ℕ). t ++ flat_map shown_byte (47 ∷ name.now))
    (sym (flat_map-append shown_byte (47 ∷ first.now) (flat_map (λ m. 47 ∷ m) (map (λ n. n.now) names))))

-- one name more is added
pub names_more : (old text new : List ℕ) (names : List (Bor (List ℕ))) (i : ℕ) (d : Bor (List ℕ)) → i < length names
    → text ≡ old ++ shown_names (take i names) → new ≡ text ++ flat_map shown_byte (47 ∷ (get_or names i d).now)
    → new ≡ old ++ shown_names (take (i + 1) names)
names_more old text new names i d within is is' =
    let name : Bor (List ℕ) = get_or names i d in
    is' ∙ ap (λ (t : List ℕ). t ++ flat_map shown_byte (47 ∷ name.now)) is
    ∙ append_assoc old (shown_names (take i names)) (flat_map shown_byte (47 ∷ name.now))
    ∙ ap (λ (t : List ℕ). old ++ t) (sym (names_then (take i names) name) ∙ ap shown_names (sym (take_more names i d within)))

-- what stands in a vector behind a list of its length that is written there is that list
pub written : {A : Type 0} (old new : List A) (n : ℕ) → n ≡ length old → length new ≡ length old → take n (new ++ drop (length new) old) ≡ new
written {A} old new n long same =
    ap (λ (xs : List A). take n (new ++ xs)) (drop_all (length new) old (omega arith))
    ∙ ap (take n) (append-nil new) ∙ take_all n new (omega arith)
