-- What is said of all directories is said of those in front, where no part of those behind is set.
use Rattle.std.proofs.Common.{◌≡◌, ℕ, ◌+◌, suc, zero, Bool, true, false, List, [], ◌∷◌, ◌++◌, ◌<◌, ◌≤◌, ◌⊎◌, map, take, drop, length, min, inl, inr, refl, ap, sym, ◌∙◌, subst, arith}
use Rattle.std.specs.Prelude.{◌||◌, All, flat_map, nat_le, sum_by}
use Rattle.std.specs.List.{list_any}
use Rattle.std.proofs.lemmas.Bool.Decides.{nat_tests}
use Rattle.std.proofs.lemmas.Grind.{flat_map-append}
use Rattle.std.proofs.lemmas.List.{drop-map, drop_all, take_all}
use Rattle.std.proofs.lemmas.List.Concat.{flat_map-cons}
use Rattle.std.proofs.lemmas.List.Elements.{All-head, All-nil, All-tail}
use Rattle.std.proofs.lemmas.List.Sums.{sum_by-append, sum_by-cons}
use Rattle.lfs_fs.specs.Directory.{Directory, Part, parts, thread}
use Rattle.lfs_command.specs.Clean.{cleaned}
use Rattle.lfs_command.specs.DirectoryEdit.{each_part}
use Rattle.lfs_law.proofs.Cuts.{All-left, All-right}
use Rattle.lfs_cut.specs.declared.overflow.Overflow.{Overflow}
use Rattle.lfs_cut.specs.Chosen.{PairRow}
use Rattle.lfs_cut.specs.CutParts.{directory_by}
use Rattle.lfs_cut.specs.Front.{IsCleanFrom}
use Rattle.lfs_cut.specs.Overflow.{overflow_of, overflows_of}
use Rattle.lfs_cut.specs.SetParts.{has_too_large_by, is_set_too_large, blocks_set, set_blocks_of}
use Rattle.lfs_cut.proofs.CutPartLemmas.{none_set}

-- parts that aren't set
abbrev AreClean : List Part → Type 0
AreClean ps = All (λ p. p.dirty ≡ false) ps

of_first : (d : Directory) (ds : List Directory) → AreClean (thread (d ∷ ds)) → AreClean (parts d)
of_first d ds all = All-left (λ (p : Part). p.dirty ≡ false) (parts d) (thread ds) all

of_others : (d : Directory) (ds : List Directory) → AreClean (thread (d ∷ ds)) → AreClean (thread ds)
of_others d ds all = All-right (λ (p : Part). p.dirty ≡ false) (parts d) (thread ds) all

-- ---- a test that only parts that are set pass

none_of_parts : (f : Part → Bool) → ((p : Part) → p.dirty ≡ false → f p ≡ false) → (ps : List Part) → AreClean ps → list_any f ps ≡ false
none_of_parts f only [] all = refl
none_of_parts f only (p ∷ ps) all =
    ap (λ (b : Bool). b || list_any f ps) (only p (All-head (λ (q : Part). q.dirty ≡ false) p ps all))
    ∙ none_of_parts f only ps (All-tail (λ (q : Part). q.dirty ≡ false) p ps all)

none_of_all : (f : Part → Bool) → ((p : Part) → p.dirty ≡ false → f p ≡ false) → (ds : List Directory) → AreClean (thread ds)
    → list_any (λ d. list_any f (parts d)) ds ≡ false
none_of_all f only [] all = refl
none_of_all f only (d ∷ ds) all =
    ap (λ (b : Bool). b || list_any (λ e. list_any f (parts e)) ds) (none_of_parts f only (parts d) (of_first d ds all))
    ∙ none_of_all f only ds (of_others d ds all)

any_in_front : (f : Part → Bool) → ((p : Part) → p.dirty ≡ false → f p ≡ false) → (n : ℕ) (ds : List Directory) → IsCleanFrom n ds
    → list_any (λ d. list_any f (parts d)) (take n ds) ≡ list_any (λ d. list_any f (parts d)) ds
any_in_front f only zero ds clean = sym (none_of_all f only ds clean)
any_in_front f only (suc n) [] clean = refl
any_in_front f only (suc n) (d ∷ ds) clean = ap (λ (b : Bool). list_any f (parts d) || b) (any_in_front f only n ds clean)

pub large_in_front : (bytes superblock n : ℕ) (ds : List Directory) → IsCleanFrom n ds
    → list_any (has_too_large_by bytes superblock) (take n ds) ≡ list_any (has_too_large_by bytes superblock) ds
large_in_front bytes superblock n ds clean = any_in_front (is_set_too_large bytes superblock) (λ p unset. rw unset refl) n ds clean

-- ---- a sum over parts that are set

none_in_parts : (f : Part → ℕ) → ((p : Part) → p.dirty ≡ false → f p ≡ 0) → (ps : List Part) → AreClean ps → sum_by f ps ≡ 0
none_in_parts f only [] all = refl
none_in_parts f only (p ∷ ps) all = omega (
  arith,
  sum_by-cons f p ps,
  only p (All-head (λ (q : Part). q.dirty ≡ false) p ps all),
  none_in_parts f only ps (All-tail (λ (q : Part). q.dirty ≡ false) p ps all),
)

none_in_all : (f : Part → ℕ) → ((p : Part) → p.dirty ≡ false → f p ≡ 0) → (ds : List Directory) → AreClean (thread ds)
    → sum_by (λ d. sum_by f (parts d)) ds ≡ 0
none_in_all f only [] all = refl
none_in_all f only (d ∷ ds) all = omega (
  arith,
  sum_by-cons (λ (e : Directory). sum_by f (parts e)) d ds,
  none_in_parts f only (parts d) (of_first d ds all),
  none_in_all f only ds (of_others d ds all),
)

sum_in_front : (f : Part → ℕ) → ((p : Part) → p.dirty ≡ false → f p ≡ 0) → (n : ℕ) (ds : List Directory) → IsCleanFrom n ds
    → sum_by (λ d. sum_by f (parts d)) (take n ds) ≡ sum_by (λ d. sum_by f (parts d)) ds
sum_in_front f only zero ds clean = sym (none_in_all f only ds clean)
sum_in_front f only (suc n) [] clean = refl
sum_in_front f only (suc n) (d ∷ ds) clean = omega (
  arith,
  sum_by-cons (λ (e : Directory). sum_by f (parts e)) d ds,
  sum_by-cons (λ (e : Directory). sum_by f (parts e)) d (take n ds),
  sum_in_front f only n ds clean,
)

pub blocks_in_front : (bytes superblock n : ℕ) (ds : List Directory) → IsCleanFrom n ds
    → sum_by (set_blocks_of bytes superblock) (take n ds) ≡ sum_by (set_blocks_of bytes superblock) ds
blocks_in_front bytes superblock n ds clean = sum_in_front (blocks_set bytes superblock) (λ p unset. rw unset refl) n ds clean

-- ---- parts that overflow

none_over : (bytes superblock : ℕ) (ps : List Part) → AreClean ps → overflows_of bytes superblock ps ≡ []
none_over bytes superblock [] all = refl
none_over bytes superblock (p ∷ ps) all =
    flat_map-cons (overflow_of bytes superblock) p ps
    ∙ ap (λ (l : List Overflow). l ++ overflows_of bytes superblock ps) (unset p (All-head (λ (q : Part). q.dirty ≡ false) p ps all))
    ∙ none_over bytes superblock ps (All-tail (λ (q : Part). q.dirty ≡ false) p ps all)
  where
    unset : (q : Part) → q.dirty ≡ false → overflow_of bytes superblock q ≡ []
    unset q is = rw is refl

pub over_in_front : (bytes superblock n : ℕ) (ds : List Directory) → IsCleanFrom n ds
    → overflows_of bytes superblock (thread (take n ds)) ≡ overflows_of bytes superblock (thread ds)
over_in_front bytes superblock zero ds clean = sym (none_over bytes superblock (thread ds) clean)
over_in_front bytes superblock (suc n) [] clean = refl
over_in_front bytes superblock (suc n) (d ∷ ds) clean =
    flat_map-append (overflow_of bytes superblock) (parts d) (thread (take n ds))
    ∙ ap (λ (l : List Overflow). overflows_of bytes superblock (parts d) ++ l) (over_in_front bytes superblock n ds clean)
    ∙ sym (flat_map-append (overflow_of bytes superblock) (parts d) (thread ds))

-- ---- directories that are changed one by one

none_mapped : (g : Directory → Directory) → ((d : Directory) → AreClean (parts d) → g d ≡ d) → (ds : List Directory) → AreClean (thread ds)
    → map g ds ≡ ds
none_mapped g only [] all = refl
none_mapped g only (d ∷ ds) all =
    ap (λ (e : Directory). e ∷ map g ds) (only d (of_first d ds all))
    ∙ ap (λ (l : List Directory). d ∷ l) (none_mapped g only ds (of_others d ds all))

mapped_in_front : (g : Directory → Directory) → ((d : Directory) → AreClean (parts d) → g d ≡ d) → (n : ℕ) (ds : List Directory)
    → IsCleanFrom n ds → map g (take n ds) ++ drop n ds ≡ map g ds
mapped_in_front g only zero ds clean = sym (none_mapped g only ds clean)
mapped_in_front g only (suc n) [] clean = refl
mapped_in_front g only (suc n) (d ∷ ds) clean = ap (λ (l : List Directory). g d ∷ l) (mapped_in_front g only n ds clean)

clean_stays : (p : Part) → p.dirty ≡ false → cleaned p ≡ p
clean_stays p unset = ap (λ (t : Bool). record { pair = p.pair; entries = p.entries; delta = p.delta; dirty = t }) (sym unset)

clean_all : (ps : List Part) → AreClean ps → map cleaned ps ≡ ps
clean_all [] all = refl
clean_all (p ∷ ps) all =
    ap (λ (q : Part). q ∷ map cleaned ps) (clean_stays p (All-head (λ (q : Part). q.dirty ≡ false) p ps all))
    ∙ ap (λ (l : List Part). p ∷ l) (clean_all ps (All-tail (λ (q : Part). q.dirty ≡ false) p ps all))

pub cleaned_in_front : (n : ℕ) (ds : List Directory) → IsCleanFrom n ds
    → map (each_part cleaned) (take n ds) ++ drop n ds ≡ map (each_part cleaned) ds
cleaned_in_front n ds clean = mapped_in_front (each_part cleaned)
    (λ d all.
    ap (λ (q : Part). record { first = q; more = map cleaned d.more })
    (clean_stays d.first (All-head (λ (q : Part). q.dirty ≡ false) d.first d.more all))
    ∙ ap (λ (l : List Part). record { first = d.first; more = l }) (clean_all d.more (All-tail (λ (q : Part). q.dirty ≡ false) d.first d.more all)))
    n ds clean

pub cut_in_front : (bytes superblock : ℕ) (rows : List PairRow) (n : ℕ) (ds : List Directory) → IsCleanFrom n ds
    → map (directory_by bytes superblock rows) (take n ds) ++ drop n ds ≡ map (directory_by bytes superblock rows) ds
cut_in_front bytes superblock rows n ds clean = mapped_in_front (directory_by bytes superblock rows)
    (λ d all. sym (none_set bytes superblock rows d (none_of_parts (λ p. p.dirty) (λ p unset. unset) (parts d) all))) n ds clean

-- ---- what is cut

parts_cut_clean : (bytes superblock : ℕ) (rows : List PairRow) (ds : List Directory) → AreClean (thread ds)
    → map (directory_by bytes superblock rows) ds ≡ ds
parts_cut_clean bytes superblock rows ds all = none_mapped (directory_by bytes superblock rows)
    (λ d here. sym (none_set bytes superblock rows d (none_of_parts (λ p. p.dirty) (λ p unset. unset) (parts d) here))) ds all

-- directories behind are still without parts that are set
pub cut_from : (bytes superblock : ℕ) (rows : List PairRow) (n : ℕ) (ds : List Directory) → IsCleanFrom n ds
    → IsCleanFrom n (map (directory_by bytes superblock rows) ds)
cut_from bytes superblock rows n ds clean =
    subst (λ (l : List Directory). All (λ p. p.dirty ≡ false) (thread l))
    (sym (drop-map (directory_by bytes superblock rows) n ds ∙ parts_cut_clean bytes superblock rows (drop n ds) clean)) clean

-- ---- so many in front, of as many as there are

le_or_lt : (n m : ℕ) → (n ≤ m) ⊎ (m < n)
le_or_lt n m = by (nat_le n m) refl
  where
    by : (t : Bool) → nat_le n m ≡ t → (n ≤ m) ⊎ (m < n)
    by true is = inl (grind (arith, nat_tests, is))
    by false is = inr (grind (arith, nat_tests, is))

-- no more are taken than there are
pub taken_within : {X : Type 0} (n k : ℕ) (xs : List X) → k ≡ min n (length xs) → take k xs ≡ take n xs
taken_within n k xs is = elim (le_or_lt n (length xs)) [
  | inl within ↦ ap (λ (m : ℕ). take m xs) (omega (arith, is, within))
  | inr past ↦ take_all k xs (omega (arith, is, past)) ∙ sym (take_all n xs (omega (arith, past)))
]

pub dropped_within : {X : Type 0} (n k : ℕ) (xs : List X) → k ≡ min n (length xs) → drop k xs ≡ drop n xs
dropped_within n k xs is = elim (le_or_lt n (length xs)) [
  | inl within ↦ ap (λ (m : ℕ). drop m xs) (omega (arith, is, within))
  | inr past ↦ drop_all k xs (omega (arith, is, past)) ∙ sym (drop_all n xs (omega (arith, past)))
]

pub in_front_done : (g : Directory → Directory) (n k : ℕ) (old new : List Directory) → k ≡ min n (length old)
    → new ≡ map g (take k old) ++ drop k old → new ≡ map g (take n old) ++ drop n old
in_front_done g n k old new is so =
    so ∙ ap (λ (ds : List Directory). map g ds ++ drop k old) (taken_within n k old is)
    ∙ ap (λ (ds : List Directory). map g (take n old) ++ ds) (dropped_within n k old is)
