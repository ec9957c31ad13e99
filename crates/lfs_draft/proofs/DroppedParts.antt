-- The later part that has only the entry of a name, taken out by its place.
use Rattle.std.proofs.Common.{◌≡◌, ℕ, ◌-◌, ◌<◌, ◌≤◌, suc, zero, Bool, true, false, List, [], ◌∷◌, Some, None, length, refl, ap, ◌∙◌}
use Rattle.std.proofs.Common.{arith}
use Rattle.std.specs.Prelude.{if◌then◌else◌, count_by, find, slice_set, slice_index_or}
use Rattle.std.specs.List.{position, remove}
use Rattle.std.proofs.lemmas.List.Quantifiers.{position-Some}
use Rattle.lfs_fs.specs.Directory.{Part, Directory, parts}
use Rattle.lfs_command.specs.DirectoryEdit.{behind, taking_up, drop_later}
use Rattle.lfs_law.proofs.OneElement.{none_later, none_counted, count_cases}
use Rattle.lfs_draft.proofs.OneIndex.{nowhere}

-- if no part goes, all stay
pub none_goes : (goes : Part → Bool) (p : Part) (ps : List Part) → find goes ps ≡ None → record { first = p; more = ps } ≡ drop_later goes p ps
unfolding drop_later
none_goes goes p [] none = refl
none_goes goes p (q ∷ ps) none = by (goes q) refl (none_goes goes q ps (none_later goes q ps none))
  where
    by : (b : Bool) → goes q ≡ b → record { first = q; more = ps } ≡ drop_later goes q ps
        → record { first = p; more = q ∷ ps } ≡ (if b then drop_later goes (taking_up q.delta p) ps else behind p (drop_later goes q ps))
    by true is rest = absurd (grind (arith, is, none))
    by false is rest = ap (behind p) rest

-- the one that goes at an index, and the part before it
gone_at : (goes : Part → Bool) (p : Part) (ps : List Part) (i : ℕ) (e g : Part) → i < length ps → goes (slice_index_or ps i g) ≡ true
    → ((j : ℕ) → j < i → goes (slice_index_or ps j g) ≡ false) → count_by goes ps ≤ 1
    → slice_set (remove (p ∷ ps) (suc i)) i (taking_up (slice_index_or ps i g).delta (slice_index_or (remove (p ∷ ps) (suc i)) i e))
    ≡ parts (drop_later goes p ps)
unfolding drop_later
gone_at goes p [] i e g within passes before once = absurd (omega arith)
gone_at goes p (q ∷ ps) zero e g within passes before once =
    let none : count_by goes ps ≡ 0 = grind (arith, count_cases goes q ps) in
    rw passes (ap parts (none_goes goes (taking_up q.delta p) ps (none_counted goes ps none)))
gone_at goes p (q ∷ ps) (suc i) e g within passes before once =
    let first : goes q ≡ false = before 0 (omega arith) in
    rw first (ap (λ (qs : List Part). p ∷ qs) (gone_at goes q ps i e g (omega arith) passes
    (λ j below. before (suc j) (omega arith)) (omega (arith, once, count_cases goes q ps))))

-- a directory of these parts
of_parts : (d : Directory) (p : Part) (ps : List Part) → p ∷ ps ≡ parts d → record { first = p; more = ps } ≡ d
of_parts d p ps is =
    let one : p ≡ d.first = cc in
    let others : ps ≡ d.more = cc in
    ap (λ (q : Part). record { first = q; more = ps }) one ∙ ap (λ (qs : List Part). record { first = d.first; more = qs }) others

-- a later part before it takes up its delta
pub dropped_later : (goes : Part → Bool) (p : Part) (all rest : List Part) (at : ℕ) (gone now after : Part) → position goes all ≡ Some at
    → count_by goes all ≤ 1 → 0 < at → rest ≡ remove all at → gone ≡ slice_index_or all at gone
    → now ≡ slice_index_or rest (at - 1) now → after ≡ taking_up gone.delta now
    → record { first = p; more = slice_set rest (at - 1) after } ≡ drop_later goes p all
dropped_later goes p all rest zero gone now after found once some taken was is set = absurd (omega (arith, some))
dropped_later goes p all rest (suc i) gone now after found once some taken was is set =
    let here = position-Some goes all (suc i) gone found in
    let one_less : suc i - 1 ≡ i = omega arith in
    of_parts (drop_later goes p all) p (slice_set rest (suc i - 1) after)
    (ap (λ (n : ℕ). p ∷ slice_set rest n after) one_less
    ∙ ap (λ (q : Part). p ∷ slice_set rest i q) (set ∙ ap (taking_up gone.delta) (is ∙ ap (λ (n : ℕ). slice_index_or rest n now) one_less)
    ∙ ap (λ (q : Part). taking_up q.delta (slice_index_or rest i now)) was)
    ∙ ap (λ (qs : List Part). p ∷ slice_set qs i (taking_up (slice_index_or all (suc i) gone).delta (slice_index_or qs i now))) taken
    ∙ gone_at goes p all (suc i) now gone here.0 here.1 here.2 once)

-- or the first one
pub dropped_first : (goes : Part → Bool) (p new : Part) (all rest : List Part) (at : ℕ) (gone : Part) → position goes all ≡ Some at
    → count_by goes all ≤ 1 → at ≤ 0 → rest ≡ remove all at → gone ≡ slice_index_or all at gone → new ≡ taking_up gone.delta p
    → record { first = new; more = rest } ≡ drop_later goes p all
dropped_first goes p new all rest (suc i) gone found once none taken was set = absurd (omega (arith, none))
dropped_first goes p new [] rest zero gone found once none taken was set =
    let here = position-Some goes [] zero gone found in
    absurd (omega (arith, here.0))
dropped_first goes p new (q ∷ ps) rest zero gone found once none taken was set =
    let here = position-Some goes (q ∷ ps) zero gone found in
    of_parts (drop_later goes p (q ∷ ps)) new rest
    (ap (λ (n : Part). n ∷ rest) (set ∙ ap (λ (x : Part). taking_up x.delta p) was)
    ∙ ap (λ (qs : List Part). taking_up q.delta p ∷ qs) taken
    ∙ gone_at goes p (q ∷ ps) zero p gone here.0 here.1 here.2 once)

-- or none
pub dropped_none : (goes : Part → Bool) (p : Part) (ps : List Part) → position goes ps ≡ None
    → record { first = p; more = ps } ≡ drop_later goes p ps
dropped_none goes p ps none = none_goes goes p ps (nowhere goes ps none)
