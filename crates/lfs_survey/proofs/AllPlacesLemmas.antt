-- The places of areas, one after another, and the first one that has a property.
use Rattle.std.proofs.Common.{◌≡◌, ◌⊎◌, ℕ, ◌+◌, ◌<◌, ◌≤◌, Bool, true, false, List, [], ◌∷◌, ◌++◌, length, take, get_or, Some, None, zero, suc, refl, ap, sym, ◌∙◌, arith, subst}
use Rattle.std.specs.Prelude.{All, Contains, MatchBool, map, slice_get, slice_set}
use Rattle.std.specs.List.{range_with_len}
use Rattle.std.proofs.lemmas.List.{append-nil, append_assoc, length-take-le, take_all, take_more}
use Rattle.std.proofs.lemmas.List.Elements.{All-cons, All-contains, All-more, All-nil}
use Rattle.std.proofs.lemmas.List.FromFn.{map-range_with_len_more}
use Rattle.std.proofs.lemmas.Option.{slice_get-get_or}
use mathlib.Core.Logic.{inl, inr}
use Rattle.lfs_meta.specs.Body.{Pair}
use Rattle.lfs_survey.specs.AllPlaces.{IsFirstOf, area_places, area_places_from}
use Rattle.lfs_survey.specs.Faults.{TailIsPast}
use Rattle.lfs_survey.specs.Survey.{found_tail}
use Rattle.lfs_survey.specs.declared.area.Area.{Area}
use Rattle.lfs_survey.specs.declared.found.Found.{Found}
use Rattle.lfs_survey.specs.declared.place.Place.{Place}

module _ {X : Type 0} (P : X → Type 0) (xs : List X) (i : ℕ) where
  -- the one that has it, behind those that have it not
  pub first_found : (d : X) → i < length xs → P (get_or xs i d) → All (λ y. P y → ⊥) (take i xs) → IsFirstOf P xs (Some (get_or xs i d))
  first_found d within has none = (has, (i, slice_get-get_or xs i d within, none))

  -- one more that has it not
  pub first_more : (d : X) → i < length xs → (P (get_or xs i d) → ⊥) → All (λ y. P y → ⊥) (take i xs)
      → All (λ y. P y → ⊥) (take (i + 1) xs)
  first_more d within not_here none = All-more (λ (y : X). P y → ⊥) xs i d within none not_here

  -- none has it
  pub first_none : length xs ≤ i → All (λ y. P y → ⊥) (take i xs) → IsFirstOf P xs None
  first_none past none = subst (All (λ (y : X). P y → ⊥)) (take_all i xs past) none

-- one that is pushed behind so many that were made of their numbers
pub pushed_more : {X : Type 0} (f : ℕ → X) (old now new : List X) (n : ℕ) → now ≡ old ++ map f (range_with_len 0 n) → new ≡ now ++ f n ∷ []
    → new ≡ old ++ map f (range_with_len 0 (n + 1))
pushed_more {X} f old now new n before push =
    push ∙ ap (λ (xs : List X). xs ++ f n ∷ []) before ∙ append_assoc old (map f (range_with_len 0 n)) (f n ∷ [])
    ∙ ap (λ (xs : List X). old ++ xs) (sym (map-range_with_len_more f 0 n n (omega arith)))

-- what a tail says decides it
pub tail_past : (count : ℕ) (f : Found) (t : Pair) (b : Bool) → found_tail f ≡ t ∷ []
    → MatchBool b ((count ≤ t.0) ⊎ (count ≤ t.1)) ((count ≤ t.0) ⊎ (count ≤ t.1) → ⊥)
    → MatchBool b (TailIsPast count f) (TailIsPast count f → ⊥)
tail_past count f t true is past = (t, subst (λ (ts : List Pair). Contains ts t) (sym is) (0, omega arith, refl), past)
tail_past count f t false is not_past = λ h.
    let same : t ≡ h.0 = All-contains (λ (u : Pair). t ≡ u) (t ∷ []) h.0 (All-cons (λ (u : Pair). t ≡ u) t [] refl (All-nil (λ (u : Pair). t ≡ u)))
    (subst (λ (ts : List Pair). Contains ts h.0) is h.1) in
    not_past (subst (λ (u : Pair). (count ≤ u.0) ⊎ (count ≤ u.1)) (sym same) h.2)

-- ---- places

places_push : (n : ℕ) (areas : List Area) (a : Area) → area_places_from n (areas ++ a ∷ [])
    ≡ area_places_from n areas ++ area_places (n + length areas) (length a.found.items)
places_push n [] a =
    append-nil (area_places n (length a.found.items)) ∙ ap (λ (m : ℕ). area_places m (length a.found.items)) (omega arith)
places_push n (x ∷ areas) a =
    let here = area_places n (length x.found.items) in
    let rest = places_push (suc n) areas a in
    ap (λ (ps : List Place). here ++ ps) rest
    ∙ ap (λ (m : ℕ). here ++ (area_places_from (suc n) areas ++ area_places m (length a.found.items))) (omega arith)
    ∙ sym (append_assoc here (area_places_from (suc n) areas) (area_places (n + suc (length areas)) (length a.found.items)))

-- those of one area more
pub places_more : (i : ℕ) (areas : List Area) (a : Area) (old new : List Place) → i < length areas → a ≡ get_or areas i a
    → old ≡ area_places_from 0 (take i areas) → new ≡ old ++ area_places i (length a.found.items) → new ≡ area_places_from 0 (take (i + 1) areas)
places_more i areas a old new within is before added =
    let long : length (take i areas) ≡ i = length-take-le i areas (omega arith) in
    added ∙ ap (λ (ps : List Place). ps ++ area_places i (length a.found.items)) before
    ∙ ap (λ (m : ℕ). area_places_from 0 (take i areas) ++ area_places m (length a.found.items)) (omega arith)
    ∙ sym (ap (area_places_from 0) (take_more areas i a within ∙ ap (λ (x : Area). take i areas ++ x ∷ []) (sym is))
    ∙ places_push 0 (take i areas) a)

-- ---- chains that are known

pub set_get : (known : List ℕ) (i size h s : ℕ) → slice_get (slice_set known i size) h ≡ Some s
    → ((h ≡ i) × (s ≡ size)) ⊎ (slice_get known h ≡ Some s)
set_get [] i size h s is = inr is
set_get (x ∷ known) zero size zero s is = inl (refl, cc)
set_get (x ∷ known) zero size (suc h) s is = inr is
set_get (x ∷ known) (suc i) size zero s is = inr is
set_get (x ∷ known) (suc i) size (suc h) s is = elim (set_get known i size h s is) [
  | inl same ↦ inl (ap suc same.0, same.1)
  | inr old ↦ inr old
]

-- ---- answers

pub match_not : {P : Type 0} (b : Bool) → b ≡ false → MatchBool b P (P → ⊥) → P → ⊥
match_not true is h = absurd (cc)
match_not false is h = h
