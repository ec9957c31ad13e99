-- Places that are noted of blocks, one after another.
use Rattle.std.proofs.Common.{◌≡◌, ◌≢◌, ℕ, ◌+◌, ◌<◌, ◌==◌, ◌||◌, Bool, true, false, List, [], ◌∷◌, ◌++◌, Option, None, Some, length, take, get_or, refl, ap, sym, ◌∙◌, arith, subst}
use Rattle.std.specs.Prelude.{if◌then◌else◌, slice_index_or, unwrap_or}
use Rattle.std.proofs.lemmas.Bool.Decides.{nat_tests}
use Rattle.std.proofs.lemmas.List.{get_or-set_other, get_or-set_same, length-set, take_more}
use Rattle.lfs_survey.specs.Owned.{AreNoted, first_owner, is_looked_at, noted, then_owner}
use Rattle.lfs_survey.specs.declared.area.Area.{Area}
use Rattle.lfs_survey.specs.declared.place.Place.{Place}

then_none : (o : Option Place) (p : Place) → then_owner o false p ≡ o
then_none None p = refl
then_none (Some q) p = refl

then_this : (o : Option Place) (p : Place) → then_owner o true p ≡ Some (unwrap_or o p)
then_this None p = refl
then_this (Some q) p = refl

module _ (places : List (Option Place)) (k b : ℕ) (p : Place) (within : b < length places) where
  noted_by : (t : Bool) → (k == b) ≡ t → slice_index_or (noted places k p) b None ≡ then_owner (slice_index_or places b None) t p
  noted_by true is =
      let same : k ≡ b = grind (arith, nat_tests) in
      subst (λ (n : ℕ). slice_index_or (noted places n p) b None ≡ then_owner (slice_index_or places b None) true p) (sym same)
      (get_or-set_same places b (Some (unwrap_or (slice_index_or places b None) p)) None within
      ∙ sym (then_this (slice_index_or places b None) p))
  noted_by false is =
      let apart : b ≢ k = grind (arith, nat_tests) in
      get_or-set_other places k b (Some (unwrap_or (slice_index_or places k None) p)) None apart ∙ sym (then_none (slice_index_or places b None) p)

  noted_one : slice_index_or (noted places k p) b None ≡ then_owner (slice_index_or places b None) (k == b) p
  noted_one = noted_by (k == b) refl

then_twice : (o : Option Place) (s t : Bool) (p : Place) → then_owner (then_owner o s p) t p ≡ then_owner o (s || t) p
then_twice (Some q) s t p = refl
then_twice None true t p = refl
then_twice None false t p = refl

-- both blocks of a pair
pub noted_both : (places : List (Option Place)) (i j b : ℕ) (p : Place) → b < length places
    → slice_index_or (noted (noted places i p) j p) b None ≡ then_owner (slice_index_or places b None) ((i == b) || (j == b)) p
noted_both places i j b p within =
    let len : length (noted places i p) ≡ length places = length-set places i (Some (unwrap_or (slice_index_or places i None) p)) in
    noted_one (noted places i p) j b p (omega (arith, within, len))
    ∙ ap (λ (o : Option Place). then_owner o (j == b) p) (noted_one places i b p within)
    ∙ then_twice (slice_index_or places b None) (i == b) (j == b) p

pub noted_not : (o : Option Place) (t : Bool) (p : Place) → t ≡ false → o ≡ then_owner o t p
noted_not o t p is = sym (ap (λ (s : Bool). then_owner o s p) is ∙ then_none o p)

-- ---- one place more

module _ (areas : List Area) (b : ℕ) where
  push_by : (x p : Place) (t : Bool) (rest more : Option Place) → more ≡ then_owner rest (is_looked_at areas b p) p
      → (if t then Some x else more) ≡ then_owner (if t then Some x else rest) (is_looked_at areas b p) p
  push_by x p true rest more is = refl
  push_by x p false rest more is = is

  first_push : (ps : List Place) (p : Place)
      → first_owner areas b (ps ++ p ∷ []) ≡ then_owner (first_owner areas b ps) (is_looked_at areas b p) p
  first_push [] p = refl
  first_push (x ∷ ps) p =
      push_by x p (is_looked_at areas b x) (first_owner areas b ps) (first_owner areas b (ps ++ p ∷ [])) (first_push ps p)

pub noted_more : (areas : List Area) (ps : List Place) (i : ℕ) (p : Place) (places new : List (Option Place)) → i < length ps
    → p ≡ get_or ps i p → length new ≡ length places → AreNoted areas (take i ps) places
    → ((b : ℕ) → b < length places → slice_index_or new b None ≡ then_owner (slice_index_or places b None) (is_looked_at areas b p) p)
    → AreNoted areas (take (i + 1) ps) new
noted_more areas ps i p places new within is len noted more b below =
    let old : b < length places = omega (arith, below, len) in
    more b old ∙ ap (λ (o : Option Place). then_owner o (is_looked_at areas b p) p) (noted b old)
    ∙ sym (ap (first_owner areas b) (take_more ps i p within ∙ ap (λ (x : Place). take i ps ++ x ∷ []) (sym is))
    ∙ first_push areas b (take i ps) p)

-- none before the first place
pub noted_none : (areas : List Area) (n : ℕ) (places : List (Option Place)) → ((b : ℕ) → slice_index_or places b None ≡ None)
    → AreNoted areas [] places
noted_none areas n places none b within = none b
