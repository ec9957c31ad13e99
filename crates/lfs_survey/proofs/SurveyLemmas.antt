-- Areas, one after another.
use Rattle.std.proofs.Common.{◌≡◌, ℕ, ◌+◌, ◌<◌, ◌≤◌, Bool, true, false, List, [], ◌∷◌, ◌++◌, length, drop, take, get_or, refl, ap, sym, ◌∙◌, arith, cond, subst}
use Rattle.std.specs.Prelude.{All, Option, None, Some, if◌then◌else◌}
use Rattle.std.proofs.lemmas.List.{append-nil, append_assoc, length-append, length-replicate, take_all, take_more, take-append-drop, take-append-le}
use Rattle.std.proofs.lemmas.List.Concat.{flat_map-append}
use Rattle.std.proofs.lemmas.List.Elements.{All-append, All-cons, All-head, All-nil, All-push, All-tail, All-weaker}
use Rattle.std.proofs.lemmas.Option.{same_Some, none-some}
use Rattle.lfs_block.specs.Disk.{Disk}
use Rattle.lfs_meta.specs.Body.{Pair}
use Rattle.lfs_fs.specs.Pair.{root}
use Rattle.lfs_fs.specs.Used.{unmarked}
use Rattle.lfs_survey.specs.Area.{IsArea, looked_after}
use Rattle.lfs_survey.specs.Calls.{start_call}
use Rattle.lfs_survey.specs.Looking.{Grows, is_open, looked_behind}
use Rattle.lfs_survey.specs.Survey.{AddsAreas, BeginAmong, BeginIn, IsSurvey, area_tails, behind_area, behind_areas, first_open, tails_behind, unlooked}
use Rattle.lfs_survey.specs.declared.area.Area.{Area}
use Rattle.lfs_survey.specs.declared.call.Call.{Call}
use Rattle.lfs_survey.specs.declared.found.Found.{Found}
use Rattle.lfs_survey.specs.declared.survey.Survey.{Survey}
use Rattle.lfs_survey.proofs.AreaLemmas.{after_fewer, after_grows, after_len}
use Rattle.lfs_survey.proofs.LookingLemmas.{behind_fewer, behind_shut, grows_shut, grows_then}

-- ---- the first pair of an area

after_first : (looked : List Bool) (cs rest : List Call) (fs : List Found) (start : Pair) → cs ≡ start_call start ∷ rest
    → length fs ≡ length cs → (unmarked (looked_after looked cs fs) + cond (is_open looked start) 1 0 ≤ unmarked looked)
    × (is_open (looked_after looked cs fs) start ≡ false)
after_first looked cs rest [] start calls all = absurd (omega (arith, ap length calls, all))
after_first looked cs rest (f ∷ fs) start calls all = rw calls (
    let table = looked_behind looked start in (
      let one = behind_fewer looked start in let more = after_fewer table rest fs in omega arith,
      grows_shut table (looked_after table rest fs) start (after_grows table rest fs) (behind_shut looked start),
    ))

-- ---- the first open pair

module _ (looked : List Bool) (start : Pair) where
  -- by whether the pair in front is open
  open_by : (p : Pair) (rest : Option Pair) (t : Bool) → is_open looked p ≡ t → (rest ≡ Some start → is_open looked start ≡ true)
      → (if t then Some p else rest) ≡ Some start → is_open looked start ≡ true
  open_by p rest true is later at = subst (λ (q : Pair). is_open looked q ≡ true) (same_Some p start at) is
  open_by p rest false is later at = later at

  -- it is open
  pub first_is_open : (ps : List Pair) → first_open looked ps ≡ Some start → is_open looked start ≡ true
  first_is_open [] at = absurd (none-some start at)
  first_is_open (p ∷ ps) at = open_by p (first_open looked ps) (is_open looked p) refl (first_is_open ps) at

  back_by : (p : Pair) (rest more : Option Pair) (t : Bool) → (rest ≡ Some start → more ≡ Some start)
      → (if t then Some p else rest) ≡ Some start → (if t then Some p else more) ≡ Some start
  back_by p rest more true later at = at
  back_by p rest more false later at = later at

  -- further pairs change nothing
  first_back : (ps back : List Pair) → first_open looked ps ≡ Some start → first_open looked (ps ++ back) ≡ Some start
  first_back [] back at = absurd (none-some start at)
  first_back (p ∷ ps) back at =
      back_by p (first_open looked ps) (first_open looked (ps ++ back)) (is_open looked p) (first_back ps back) at

-- pairs in front that aren't open change nothing
first_front : (looked : List Bool) (front ps : List Pair) → All (λ p. is_open looked p ≡ false) front
    → first_open looked (front ++ ps) ≡ first_open looked ps
first_front looked [] ps shut = refl
first_front looked (p ∷ front) ps shut =
    ap (λ (t : Bool). if t then Some p else first_open looked (front ++ ps)) (All-head (λ q. is_open looked q ≡ false) p front shut)
    ∙ first_front looked front ps (All-tail (λ q. is_open looked q ≡ false) p front shut)

-- what isn't open stays so
pub still_shut : (before after : List Bool) (ps : List Pair) → Grows before after → All (λ p. is_open before p ≡ false) ps
    → All (λ p. is_open after p ≡ false) ps
still_shut before after ps grows shut =
    All-weaker (λ p. is_open before p ≡ false) (λ p. is_open after p ≡ false) (λ p is. grows_shut before after p grows is) ps shut

area_grows : (looked : List Bool) (a : Area) → Grows looked (behind_area looked a)
area_grows looked a = after_grows looked a.calls.items a.found.items

-- ---- lists of areas

among_back : (d : Disk) (looked : List Bool) (xs ys : List Pair) (areas : List Area) → BeginAmong d looked xs areas
    → BeginAmong d looked (xs ++ ys) areas
among_back d looked xs ys [] h = tt
among_back d looked xs ys (a ∷ areas) (start, at, area, rest) =
    (start, first_back looked start xs ys at, area, among_back d (behind_area looked a) xs ys areas rest)

among_front : (d : Disk) (looked : List Bool) (xs ys : List Pair) (areas : List Area) → All (λ p. is_open looked p ≡ false) xs
    → BeginAmong d looked ys areas → BeginAmong d looked (xs ++ ys) areas
among_front d looked xs ys [] shut h = tt
among_front d looked xs ys (a ∷ areas) shut (start, at, area, rest) = (
  start,
  first_front looked xs ys shut ∙ at,
  area,
  among_front d (behind_area looked a) xs ys areas (still_shut looked (behind_area looked a) xs (area_grows looked a) shut) rest,
)

among_append : (d : Disk) (looked : List Bool) (starts : List Pair) (xs ys : List Area) → BeginAmong d looked starts xs
    → BeginAmong d (behind_areas looked xs) starts ys → BeginAmong d looked starts (xs ++ ys)
among_append d looked starts [] ys first later = later
among_append d looked starts (a ∷ xs) ys (start, at, area, rest) later =
    (start, at, area, among_append d (behind_area looked a) starts xs ys rest later)

pub begin_append : (d : Disk) (looked : List Bool) (starts : List Pair) (xs ys : List Area) → BeginIn d looked starts xs
    → BeginIn d (behind_areas looked xs) (starts ++ tails_behind xs) ys → BeginIn d looked starts (xs ++ ys)
begin_append d looked starts [] ys first later =
    subst (λ (ps : List Pair). BeginIn d looked ps ys) (append-nil starts) later
begin_append d looked starts (a ∷ xs) ys (start, at, area, rest) later = (
  start,
  at,
  area,
  begin_append d (behind_area looked a) (starts ++ area_tails a) xs ys rest
      (subst (λ (ps : List Pair). BeginIn d (behind_areas looked (a ∷ xs)) ps ys) (sym (append_assoc starts (area_tails a) (tails_behind xs)))
      later),
)

-- those that begin among some pairs begin along a list in which none before these is open
pub among_along : (d : Disk) (looked : List Bool) (front xs back : List Pair) (areas : List Area)
    → All (λ p. is_open looked p ≡ false) front → BeginAmong d looked xs areas → BeginIn d looked ((front ++ xs) ++ back) areas
among_along d looked front xs back [] shut h = tt
among_along d looked front xs back (a ∷ areas) shut (start, at, area, rest) =
    let table = behind_area looked a in (
      start,
      first_back looked start (front ++ xs) back (first_front looked front xs shut ∙ at),
      area,
      subst (λ (ps : List Pair). BeginIn d table ps areas) (sym (append_assoc (front ++ xs) back (area_tails a)))
          (among_along d table front xs (back ++ area_tails a) areas (still_shut looked table front (area_grows looked a) shut) rest),
    )

pub behind_append : (looked : List Bool) (xs ys : List Area) → behind_areas looked (xs ++ ys) ≡ behind_areas (behind_areas looked xs) ys
behind_append looked [] ys = refl
behind_append looked (a ∷ xs) ys = behind_append (behind_area looked a) xs ys

-- ---- areas that are added

-- none where the pair isn't open
pub adds_none : (d : Disk) (looked : List Bool) (areas : List Area) (start : Pair) → is_open looked start ≡ false
    → AddsAreas d looked looked areas areas (start ∷ [])
adds_none d looked areas start shut = record {
  more = [];
  added = sym (append-nil areas);
  begin = tt;
  looked = refl;
  closed = All-cons (λ p. is_open looked p ≡ false) start [] shut (All-nil (λ p. is_open looked p ≡ false));
  len = refl;
  grows = λ n is. is;
  fewer = omega arith;
}

-- one where it is
pub adds_one : (d : Disk) (looked next : List Bool) (areas new : List Area) (start : Pair) (a : Area) → is_open looked start ≡ true
    → IsArea d looked start a → next ≡ looked_after looked a.calls.items a.found.items → new ≡ areas ++ a ∷ []
    → AddsAreas d looked next areas new (start ∷ [])
adds_one d looked next areas new start a is area after push =
    let first = after_first looked a.calls.items _ a.found.items start area.called area.all in
    let one : cond {A = ℕ} (is_open looked start) 1 0 ≡ 1 = ap (λ (t : Bool). cond {A = ℕ} t 1 0) is in
    let table = ap unmarked after in
    let shut : is_open next start ≡ false = rw after first.1 in
    record {
      more = a ∷ [];
      added = push;
      begin = (start, ap (λ (t : Bool). if t then Some start else None) is, area, tt);
      looked = after;
      closed = All-cons (λ p. is_open next p ≡ false) start [] shut (All-nil (λ p. is_open next p ≡ false));
      len = ap length after ∙ after_len looked a.calls.items a.found.items;
      grows = rw after (after_grows looked a.calls.items a.found.items);
      fewer = let low = first.0 in omega arith;
    }

-- for no pair
pub adds_nothing : (d : Disk) (looked : List Bool) (areas : List Area) → AddsAreas d looked looked areas areas []
adds_nothing d looked areas = record {
  more = [];
  added = sym (append-nil areas);
  begin = tt;
  looked = refl;
  closed = All-nil (λ p. is_open looked p ≡ false);
  len = refl;
  grows = λ n is. is;
  fewer = omega arith;
}

adds_then : (d : Disk) (before mid after : List Bool) (old here new : List Area) (xs ys : List Pair) → AddsAreas d before mid old here xs
    → AddsAreas d mid after here new ys → AddsAreas d before after old new (xs ++ ys)
adds_then d before mid after old here new xs ys h k =
    let wide : BeginAmong d mid (xs ++ ys) k.more = among_front d mid xs ys k.more h.closed k.begin in
    record {
      more = h.more ++ k.more;
      added = k.added ∙ ap (λ (xs : List Area). xs ++ k.more) h.added ∙ append_assoc old h.more k.more;
      begin = among_append d before (xs ++ ys) h.more k.more (among_back d before xs ys h.more h.begin)
          (subst (λ (t : List Bool). BeginAmong d t (xs ++ ys) k.more) h.looked wide);
      looked = k.looked ∙ ap (λ (t : List Bool). behind_areas t k.more) h.looked ∙ sym (behind_append before h.more k.more);
      closed = All-append (λ p. is_open after p ≡ false) xs ys
          (still_shut mid after xs k.grows h.closed) k.closed;
      len = k.len ∙ h.len;
      grows = grows_then before mid after h.grows k.grows;
      fewer = let first = h.fewer in let later = k.fewer in omega (arith, length-append h.more k.more);
    }

-- for one pair more
pub adds_more : (d : Disk) (before mid after : List Bool) (old here new : List Area) (starts : List Pair) (i : ℕ) (start : Pair)
    → i < length starts → start ≡ get_or starts i start → AddsAreas d before mid old here (take i starts)
    → AddsAreas d mid after here new (start ∷ []) → AddsAreas d before after old new (take (i + 1) starts)
adds_more d before mid after old here new starts i start within is h k =
    subst (λ (xs : List Pair). AddsAreas d before after old new xs)
    (sym (take_more starts i start within ∙ ap (λ (p : Pair). take i starts ++ p ∷ []) (sym is)))
    (adds_then d before mid after old here new (take i starts) (start ∷ []) h k)

-- ---- the tails of one area more

module _ (areas : List Area) (next : ℕ) (a : Area) (within : next < length areas) (is : a ≡ get_or areas next a) where
  -- those of the areas in front, if others are added
  pub tails_front : (more : List Area) → tails_behind (take (next + 1) (areas ++ more)) ≡ tails_behind (take next areas) ++ area_tails a
  tails_front more =
      ap tails_behind (take-append-le (next + 1) areas more (omega (arith, within)) ∙ take_more areas next a within
      ∙ ap (λ (x : Area). take next areas ++ x ∷ []) (sym is))
      ∙ flat_map-append area_tails (take next areas) (a ∷ [])
      ∙ ap (λ (ps : List Pair). tails_behind (take next areas) ++ ps) (append-nil (area_tails a))

  -- areas begin along all tails, if those in front aren't open
  pub along_next : (d : Disk) (now : List Bool) (starts : List Pair) (more : List Area)
      → All (λ p. is_open now p ≡ false) (starts ++ tails_behind (take next areas)) → BeginAmong d now (area_tails a) more
      → BeginIn d now (starts ++ tails_behind areas) more
  along_next d now starts more shut begin =
      let old = tails_behind (take next areas) in
      let back = tails_behind (drop (next + 1) areas) in
      let some : tails_behind (take (next + 1) areas) ≡ old ++ area_tails a =
      ap (λ (xs : List Area). tails_behind (take (next + 1) xs)) (sym (append-nil areas)) ∙ tails_front [] in
      let all : tails_behind areas ≡ (old ++ area_tails a) ++ back =
      ap tails_behind (sym (take-append-drop (next + 1) areas))
      ∙ flat_map-append area_tails (take (next + 1) areas) (drop (next + 1) areas) ∙ ap (λ (ps : List Pair). ps ++ back) some in
      let same : ((starts ++ old) ++ area_tails a) ++ back ≡ starts ++ tails_behind areas =
      append_assoc (starts ++ old) (area_tails a) back ∙ append_assoc starts old (area_tails a ++ back)
      ∙ ap (λ (ps : List Pair). starts ++ ps) (sym (append_assoc old (area_tails a) back) ∙ sym all) in
      subst (λ (ps : List Pair). BeginIn d now ps more) same (among_along d now (starts ++ old) (area_tails a) back more shut begin)

-- ---- all of an image

-- the areas so far, of which the first ones' tails were followed
pub record IsSurveying (d : Disk) (now : List Bool) (areas : List Area) (next : ℕ) : Type 0 where
  pub first : Area
  pub later : List Area
  pub are : areas ≡ first ∷ later
  pub root_area : IsArea d (unlooked d) root first
  pub others : BeginIn d (behind_area (unlooked d) first) (area_tails first) later
  pub looked : now ≡ behind_areas (unlooked d) areas
  pub complete : All (λ a. All (λ p. is_open now p ≡ false) (area_tails a)) (take next areas)
  pub closed : All (λ p. is_open now p ≡ false) (tails_behind (take next areas))
  pub within : next ≤ length areas
  pub len : length now ≡ d.count

pub surveying_begin : (d : Disk) (before now : List Bool) (areas : List Area) (a : Area) → before ≡ unlooked d → IsArea d before root a
    → now ≡ looked_after before a.calls.items a.found.items → areas ≡ a ∷ [] → IsSurveying d now areas 0
surveying_begin d before now areas a none area after push = record {
  first = a;
  later = [];
  are = push;
  root_area = subst (λ (t : List Bool). IsArea d t root a) none area;
  others = tt;
  looked = after ∙ ap (λ (t : List Bool). behind_area t a) none ∙ ap (behind_areas (unlooked d)) (sym push);
  complete = All-nil (λ (a : Area). All (λ p. is_open now p ≡ false) (area_tails a));
  closed = All-nil (λ p. is_open now p ≡ false);
  within = omega arith;
  len = ap length after ∙ after_len before a.calls.items a.found.items ∙ ap length none ∙ length-replicate d.count false;
}

pub surveying_more : (d : Disk) (now after : List Bool) (areas new : List Area) (next : ℕ) (a : Area) → IsSurveying d now areas next
    → next < length areas → a ≡ get_or areas next a → AddsAreas d now after areas new (area_tails a) → IsSurveying d after new (next + 1)
surveying_more d now after areas new next a h within is k =
    let front : take (next + 1) new ≡ take next areas ++ a ∷ [] =
    ap (take (next + 1)) k.added ∙ take-append-le (next + 1) areas k.more (omega arith) ∙ take_more areas next a within
    ∙ ap (λ (x : Area). take next areas ++ x ∷ []) (sym is) in
    let tails : tails_behind (take (next + 1) new) ≡ tails_behind (take next areas) ++ area_tails a =
    ap (λ (xs : List Area). tails_behind (take (next + 1) xs)) k.added ∙ tails_front areas next a within is k.more in
    let before = behind_area (unlooked d) h.first in
    let table : now ≡ behind_areas before h.later = h.looked ∙ ap (behind_areas (unlooked d)) h.are in
    let begin : BeginIn d now (area_tails h.first ++ tails_behind h.later) k.more =
    subst (λ (xs : List Area). BeginIn d now (tails_behind xs) k.more) h.are
    (along_next areas next a within is d now [] k.more h.closed k.begin) in
    record {
      first = h.first;
      later = h.later ++ k.more;
      are = k.added ∙ ap (λ (xs : List Area). xs ++ k.more) h.are;
      root_area = h.root_area;
      others = begin_append d before (area_tails h.first) h.later k.more h.others
          (subst (λ (t : List Bool). BeginIn d t (area_tails h.first ++ tails_behind h.later) k.more) table begin);
      looked = k.looked ∙ ap (λ (t : List Bool). behind_areas t k.more) h.looked ∙ sym (behind_append (unlooked d) areas k.more)
          ∙ ap (behind_areas (unlooked d)) (sym k.added);
      complete = subst (All (λ (x : Area). All (λ p. is_open after p ≡ false) (area_tails x))) (sym front)
          (All-push (λ (x : Area). All (λ p. is_open after p ≡ false) (area_tails x)) (take next areas) a
          (All-weaker (λ (x : Area). All (λ p. is_open now p ≡ false) (area_tails x))
          (λ (x : Area). All (λ p. is_open after p ≡ false) (area_tails x))
          (λ x all. still_shut now after (area_tails x) k.grows all) (take next areas) h.complete) k.closed);
      closed = subst (λ (ps : List Pair). All (λ p. is_open after p ≡ false) ps) (sym tails)
          (All-append (λ p. is_open after p ≡ false) (tails_behind (take next areas)) (area_tails a)
          (still_shut now after (tails_behind (take next areas)) k.grows h.closed) k.closed);
      within = omega (arith, ap length k.added, length-append areas k.more);
      len = k.len ∙ h.len;
    }

pub surveying_all : (d : Disk) (s : Survey) (next : ℕ) → IsSurveying d s.looked.items s.areas.items next → length s.areas.items ≤ next
    → IsSurvey d s
surveying_all d s next h done =
    let all = take_all next s.areas.items done in
    record {
      first = h.first;
      later = h.later;
      are = h.are;
      root_area = h.root_area;
      others = h.others;
      looked = h.looked;
      complete = subst (All (λ (x : Area). All (λ p. is_open s.looked.items p ≡ false) (area_tails x))) all h.complete;
    }
