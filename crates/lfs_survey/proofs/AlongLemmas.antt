-- Areas that begin at some pairs, and along the thread behind them.
use Rattle.std.proofs.Common.{◌≡◌, ℕ, ◌+◌, ◌<◌, ◌≤◌, Bool, false, List, [], ◌++◌, length, take, get_or, refl, ap, sym, ◌∙◌, arith, subst}
use Rattle.std.specs.Prelude.{All}
use Rattle.std.proofs.lemmas.List.{append-nil, append_assoc, length-append, take_all, take_at}
use Rattle.std.proofs.lemmas.List.Elements.{All-append, All-nil, All-take}
use Rattle.lfs_block.specs.Disk.{Disk}
use Rattle.lfs_meta.specs.Body.{Pair}
use Rattle.lfs_survey.specs.Looking.{Grows, is_open}
use Rattle.lfs_survey.specs.Lone.{AreAlong}
use Rattle.lfs_survey.specs.Survey.{AddsAreas, BeginIn, area_tails, behind_areas, tails_behind}
use Rattle.lfs_survey.specs.declared.area.Area.{Area}
use Rattle.lfs_survey.proofs.LookingLemmas.{grows_then}
use Rattle.lfs_survey.proofs.SurveyLemmas.{along_next, among_along, begin_append, behind_append, still_shut, tails_front}

-- the areas so far, of which the first ones' tails were followed
pub record IsAlong (d : Disk) (before now : List Bool) (starts : List Pair) (areas : List Area) (next : ℕ) : Type 0 where
  pub begin : BeginIn d before starts areas
  pub looked : now ≡ behind_areas before areas
  pub closed : All (λ p. is_open now p ≡ false) (starts ++ tails_behind (take next areas))
  pub within : next ≤ length areas
  pub len : length now ≡ length before
  pub grows : Grows before now

pub along_begin : (d : Disk) (before now : List Bool) (starts : List Pair) (areas : List Area) → AddsAreas d before now [] areas starts
    → IsAlong d before now starts areas 0
along_begin d before now starts areas h = record {
  begin = subst (λ (xs : List Area). BeginIn d before starts xs) (sym h.added)
      (subst (λ (ps : List Pair). BeginIn d before ps h.more) (append-nil starts)
      (among_along d before [] starts [] h.more (All-nil (λ p. is_open before p ≡ false)) h.begin));
  looked = h.looked ∙ ap (behind_areas before) (sym h.added);
  closed = subst (λ (ps : List Pair). All (λ p. is_open now p ≡ false) ps) (sym (append-nil starts)) h.closed;
  within = omega arith;
  len = h.len;
  grows = h.grows;
}

pub along_more : (d : Disk) (before now after : List Bool) (starts : List Pair) (areas new : List Area) (next : ℕ) (a : Area)
    → IsAlong d before now starts areas next → next < length areas → a ≡ get_or areas next a
    → AddsAreas d now after areas new (area_tails a) → IsAlong d before after starts new (next + 1)
along_more d before now after starts areas new next a h within is k =
    let tails : tails_behind (take (next + 1) new) ≡ tails_behind (take next areas) ++ area_tails a =
    ap (λ (xs : List Area). tails_behind (take (next + 1) xs)) k.added ∙ tails_front areas next a within is k.more in
    let old = starts ++ tails_behind (take next areas) in
    let all : starts ++ tails_behind (take (next + 1) new) ≡ old ++ area_tails a =
    ap (λ (ps : List Pair). starts ++ ps) tails ∙ sym (append_assoc starts (tails_behind (take next areas)) (area_tails a)) in
    record {
      begin = subst (λ (xs : List Area). BeginIn d before starts xs) (sym k.added)
          (begin_append d before starts areas k.more h.begin
          (subst (λ (t : List Bool). BeginIn d t (starts ++ tails_behind areas) k.more) h.looked
          (along_next areas next a within is d now starts k.more h.closed k.begin)));
      looked = k.looked ∙ ap (λ (t : List Bool). behind_areas t k.more) h.looked ∙ sym (behind_append before areas k.more)
          ∙ ap (behind_areas before) (sym k.added);
      closed = subst (λ (ps : List Pair). All (λ p. is_open after p ≡ false) ps) (sym all)
          (All-append (λ p. is_open after p ≡ false) old (area_tails a)
          (still_shut now after old k.grows h.closed) k.closed);
      within = omega (arith, ap length k.added, length-append areas k.more);
      len = k.len ∙ h.len;
      grows = grows_then before now after h.grows k.grows;
    }

-- what all of two lists have, those of the first one have
front_all : {X : Type 0} (P : X → Type 0) (xs ys : List X) → All P (xs ++ ys) → All P xs
front_all P xs ys all = subst (All P) (take_at xs ys (length xs) refl) (All-take P (length xs) (xs ++ ys) all)

-- none of the pairs that were begun with is left open
pub along_closed : (d : Disk) (before after : List Bool) (starts : List Pair) (areas : List Area) → AreAlong d before after starts areas
    → All (λ p. is_open after p ≡ false) starts
along_closed d before after starts areas h = front_all (λ p. is_open after p ≡ false) starts (tails_behind areas) h.closed

-- all tails were followed
pub along_all : (d : Disk) (before now : List Bool) (starts : List Pair) (areas : List Area) (next : ℕ)
    → IsAlong d before now starts areas next → length areas ≤ next → AreAlong d before now starts areas
along_all d before now starts areas next h done = record {
  begin = h.begin;
  looked = h.looked;
  closed = subst (λ (xs : List Area). All (λ p. is_open now p ≡ false) (starts ++ tails_behind xs)) (take_all next areas done) h.closed;
}
