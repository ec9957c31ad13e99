-- A directory taken out of the thread, by its place.
use Rattle.std.proofs.Common.{◌≡◌, ℕ, ◌-◌, ◌<◌, ◌≤◌, suc, zero, Bool, true, false, List, [], ◌∷◌, Some, None, length, refl, ap, ◌∙◌, arith}
use Rattle.std.specs.Prelude.{if◌then◌else◌, count_by, find, slice_set, slice_index_or}
use Rattle.std.specs.List.{position, remove}
use Rattle.std.proofs.lemmas.List.Quantifiers.{position-Some}
use Rattle.lfs_meta.specs.Body.{Pair}
use Rattle.lfs_fs.specs.Directory.{Directory, begins_at}
use Rattle.lfs_command.specs.DirectoryEdit.{absorb}
use Rattle.lfs_command.specs.ThreadEdit.{take_out, drop_directory}
use Rattle.lfs_law.proofs.OneElement.{none_later, none_counted, count_cases}
use Rattle.lfs_draft.proofs.OneIndex.{nowhere}

taken_at : (k : Pair) (d : Directory) (ds : List Directory) (i : ℕ) (e g : Directory) → i < length ds
    → begins_at k (slice_index_or ds i g) ≡ true
    → ((j : ℕ) → j < i → begins_at k (slice_index_or ds j g) ≡ false)
    → slice_set (remove (d ∷ ds) (suc i)) i (absorb (slice_index_or (remove (d ∷ ds) (suc i)) i e) (slice_index_or ds i g))
    ≡ take_out k d ds
unfolding take_out
taken_at k d [] i e g within passes before = absurd (omega arith)
taken_at k d (x ∷ xs) zero e g within passes before = rw passes refl
taken_at k d (x ∷ xs) (suc i) e g within passes before =
    rw (before 0 (omega arith)) (ap (λ (ds : List Directory). d ∷ ds) (taken_at k x xs i e g (omega arith) passes
    (λ j below. before (suc j) (omega arith))))

pub taken_behind : (k : Pair) (all rest : List Directory) (at : ℕ) (gone now after : Directory) → position (begins_at k) all ≡ Some at
    → 0 < at → rest ≡ remove all at
    → gone ≡ slice_index_or all at gone → now ≡ slice_index_or rest (at - 1) now → after ≡ absorb now gone
    → slice_set rest (at - 1) after ≡ drop_directory k all
taken_behind k [] rest at gone now after found behind taken was is set =
    let here = position-Some (begins_at k) [] at gone found in
    absurd (omega (arith, here.0))
taken_behind k (d ∷ ds) rest zero gone now after found behind taken was is set = absurd (omega (arith, behind))
taken_behind k (d ∷ ds) rest (suc i) gone now after found behind taken was is set =
    let here = position-Some (begins_at k) (d ∷ ds) (suc i) gone found in
    let one_less : suc i - 1 ≡ i = omega arith in
    ap (λ (n : ℕ). slice_set rest n after) one_less
    ∙ ap (slice_set rest i) (set ∙ ap (λ (x : Directory). absorb x gone) (is ∙ ap (λ (n : ℕ). slice_index_or rest n now) one_less)
    ∙ ap (absorb (slice_index_or rest i now)) was)
    ∙ ap (λ (xs : List Directory). slice_set xs i (absorb (slice_index_or xs i now) (slice_index_or ds i gone))) taken
    ∙ taken_at k d ds i now gone (omega (arith, here.0)) here.1 (λ j below. here.2 (suc j) (omega (arith, below)))

not_taken : (k : Pair) (d : Directory) (ds : List Directory) → find (begins_at k) ds ≡ None → d ∷ ds ≡ take_out k d ds
unfolding take_out
not_taken k d [] none = refl
not_taken k d (x ∷ xs) none = by (begins_at k x) refl (not_taken k x xs (none_later (begins_at k) x xs none))
  where
    by : (b : Bool) → begins_at k x ≡ b → x ∷ xs ≡ take_out k x xs → d ∷ x ∷ xs ≡ (if b then absorb d x ∷ xs else d ∷ take_out k x xs)
    by true is rest = absurd (grind (arith, is, none))
    by false is rest = ap (λ (ds : List Directory). d ∷ ds) rest

-- where no directory begins at the pair, all stay
pub none_taken : (k : Pair) (ds : List Directory) → position (begins_at k) ds ≡ None → ds ≡ drop_directory k ds
none_taken k [] none = refl
none_taken k (d ∷ ds) none = not_taken k d ds (none_later (begins_at k) d ds (nowhere (begins_at k) (d ∷ ds) none))

-- where the first one does and no other, all stay
pub first_stays : (k : Pair) (ds : List Directory) (at : ℕ) (e : Directory) → position (begins_at k) ds ≡ Some at → at ≤ 0
    → count_by (begins_at k) ds ≤ 1 → ds ≡ drop_directory k ds
first_stays k [] at e found first once = refl
first_stays k (d ∷ ds) zero e found first once =
    let here = position-Some (begins_at k) (d ∷ ds) zero e found in
    let none : count_by (begins_at k) ds ≡ 0 = grind (arith, count_cases (begins_at k) d ds, here.1) in
    not_taken k d ds (none_counted (begins_at k) ds none)
first_stays k (d ∷ ds) (suc i) e found first once = absurd (omega (arith, first))
