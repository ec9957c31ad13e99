-- Old entries and new ones aligned, one old entry after another.
use Rattle.std.proofs.Common.{◌≡◌, ℕ, ◌+◌, ◌<◌, ◌≤◌, Bool, true, false, List, [], ◌∷◌, ◌++◌, length, map, take, drop, get_or, refl, ap, sym}
use Rattle.std.proofs.Common.{◌∙◌, arith, suc, zero, inl, inr, append_assoc}
use Rattle.std.specs.List.{list_any, position_or_len}
use Rattle.std.proofs.lemmas.Bool.{cases_Bool}
use Rattle.std.proofs.lemmas.List.{drop_all}
use Rattle.lfs_meta.specs.Entry.{StoredEntry}
use Rattle.lfs_pair.specs.Difference.{Fate, Goes, Stays, Comes, fates, is_same_name}
use Rattle.lfs_pair.proofs.TurnLemmas.{joined}

-- ---- the first place that passes

first-yes : {X : Type 0} (p : X → Bool) (x : X) (xs : List X) → p x ≡ true → position_or_len p (x ∷ xs) ≡ 0
first-yes p x xs passes = rw passes refl

first-no : {X : Type 0} (p : X → Bool) (x : X) (xs : List X) → p x ≡ false → position_or_len p (x ∷ xs) ≡ suc (position_or_len p xs)
first-no p x xs fails = rw fails (omega arith)

some-passes : {X : Type 0} (p : X → Bool) (xs : List X) → position_or_len p xs < length xs → list_any p xs ≡ true
some-passes p [] within = absurd (omega (arith, within))
some-passes p (x ∷ xs) within = elim (cases_Bool (p x)) [
  | inl passes ↦ rw passes refl
  | inr fails ↦
      let next : position_or_len p (x ∷ xs) ≡ suc (position_or_len p xs) = first-no p x xs fails in
      rw fails (some-passes p xs (omega (arith, next, within)))
]

none-passes : {X : Type 0} (p : X → Bool) (xs : List X) → length xs ≤ position_or_len p xs → list_any p xs ≡ false
none-passes p [] past = refl
none-passes p (x ∷ xs) past = elim (cases_Bool (p x)) [
  | inl passes ↦ let first : position_or_len p (x ∷ xs) ≡ 0 = first-yes p x xs passes in absurd (omega (arith, first, past))
  | inr fails ↦
      let next : position_or_len p (x ∷ xs) ≡ suc (position_or_len p xs) = first-no p x xs fails in
      rw fails (none-passes p xs (omega (arith, next, past)))
]

-- ---- the heads

stays : (e f : StoredEntry) (es fs : List StoredEntry) → is_same_name e f ≡ true → fates (e ∷ es) (f ∷ fs) ≡ Stays e f ∷ fates es fs
unfolding fates
stays e f es fs same = rw same refl

comes : (e f : StoredEntry) (es fs : List StoredEntry) → is_same_name e f ≡ false → list_any (is_same_name e) fs ≡ true
    → fates (e ∷ es) (f ∷ fs) ≡ Comes f ∷ fates (e ∷ es) fs
unfolding fates
comes e f es fs other later = rw (other, later) refl

goes : (e f : StoredEntry) (es fs : List StoredEntry) → is_same_name e f ≡ false → list_any (is_same_name e) fs ≡ false
    → fates (e ∷ es) (f ∷ fs) ≡ Goes e ∷ fates es (f ∷ fs)
unfolding fates
goes e f es fs other none = rw (other, none) refl

-- ---- an old entry whose name a new one has

waits : (e : StoredEntry) (es fs : List StoredEntry) (n : ℕ) (d : StoredEntry) → n ≡ position_or_len (is_same_name e) fs → n < length fs
    → fates (e ∷ es) fs ≡ map Comes (take n fs) ++ (Stays e (get_or fs n d) ∷ fates es (drop (suc n) fs))
waits e es [] n d at within = absurd (omega (arith, within))
waits e es (f ∷ fs) zero d at within = elim (cases_Bool (is_same_name e f)) [
  | inl same ↦ stays e f es fs same
  | inr other ↦
      let next : position_or_len (is_same_name e) (f ∷ fs) ≡ suc (position_or_len (is_same_name e) fs) =
      first-no (is_same_name e) f fs other in
      absurd (omega (arith, at, next))
]
waits e es (f ∷ fs) (suc n) d at within = elim (cases_Bool (is_same_name e f)) [
  | inl same ↦
      let first : position_or_len (is_same_name e) (f ∷ fs) ≡ 0 = first-yes (is_same_name e) f fs same in
      absurd (omega (arith, at, first))
  | inr other ↦
      let next : position_or_len (is_same_name e) (f ∷ fs) ≡ suc (position_or_len (is_same_name e) fs) =
      first-no (is_same_name e) f fs other in
      let here : n ≡ position_or_len (is_same_name e) fs = omega (arith, at, next) in
      let inside : n < length fs = omega (arith, within) in
      comes e f es fs other (some-passes (is_same_name e) fs (omega (arith, here, inside)))
      ∙ ap (λ (more : List Fate). Comes f ∷ more) (waits e es fs n d here inside)
]

pub stays-pushed : (before between after : List Fate) (e f : StoredEntry) (es fs rest : List StoredEntry) (n : ℕ)
    → n ≡ position_or_len (is_same_name e) fs → n < length fs → f ≡ get_or fs n f → rest ≡ drop (n + 1) fs
    → between ≡ before ++ map Comes (take n fs) → after ≡ between ++ (Stays e f ∷ [])
    → after ++ fates es rest ≡ before ++ fates (e ∷ es) fs
stays-pushed before between after e f es fs rest n at within f_is rest_is first second =
    let coming : List Fate = map Comes (take n fs) in
    let one : suc n ≡ n + 1 = omega arith in
    let all : fates (e ∷ es) fs ≡ coming ++ (Stays e f ∷ fates es rest) =
    waits e es fs n f at within
    ∙ ap (λ (g : StoredEntry). coming ++ (Stays e g ∷ fates es (drop (suc n) fs))) (sym f_is)
    ∙ ap (λ (k : ℕ). coming ++ (Stays e f ∷ fates es (drop k fs))) one
    ∙ ap (λ (gs : List StoredEntry). coming ++ (Stays e f ∷ fates es gs)) (sym rest_is) in
    joined before between after coming (Stays e f ∷ []) (fates es rest) first second
    ∙ ap (λ (more : List Fate). before ++ more) (sym all)

-- ---- an old entry whose name no new one has

goes-alone : (e : StoredEntry) (es fs : List StoredEntry) → length fs ≤ position_or_len (is_same_name e) fs
    → fates (e ∷ es) fs ≡ Goes e ∷ fates es fs
unfolding fates
goes-alone e es [] past = refl
goes-alone e es (f ∷ fs) past = elim (cases_Bool (is_same_name e f)) [
  | inl same ↦
      let first : position_or_len (is_same_name e) (f ∷ fs) ≡ 0 = first-yes (is_same_name e) f fs same in
      absurd (omega (arith, past, first))
  | inr other ↦
      let next : position_or_len (is_same_name e) (f ∷ fs) ≡ suc (position_or_len (is_same_name e) fs) =
      first-no (is_same_name e) f fs other in
      goes e f es fs other (none-passes (is_same_name e) fs (omega (arith, past, next)))
]

pub goes-pushed : (before after : List Fate) (e : StoredEntry) (es fs : List StoredEntry) → length fs ≤ position_or_len (is_same_name e) fs
    → after ≡ before ++ (Goes e ∷ []) → after ++ fates es fs ≡ before ++ fates (e ∷ es) fs
goes-pushed before after e es fs past is =
    ap (λ (more : List Fate). more ++ fates es fs) is
    ∙ append_assoc before (Goes e ∷ []) (fates es fs)
    ∙ ap (λ (more : List Fate). before ++ more) (sym (goes-alone e es fs past))

-- ---- no old entry is left

fates-none : (fs : List StoredEntry) → fates [] fs ≡ map Comes fs
unfolding fates
fates-none [] = refl
fates-none (f ∷ fs) = ap (λ (more : List Fate). Comes f ∷ more) (fates-none fs)

pub none-left : (es : List StoredEntry) (i : ℕ) (left : List StoredEntry) (before after all : List Fate) → length es ≤ i
    → before ++ fates (drop i es) left ≡ all → after ≡ before ++ map Comes left → after ≡ all
none-left es i left before after all past so_far last =
    let rest : fates (drop i es) left ≡ map Comes left =
    ap (λ (ds : List StoredEntry). fates ds left) (drop_all i es past) ∙ fates-none left in
    last ∙ ap (λ (more : List Fate). before ++ more) (sym rest) ∙ so_far
