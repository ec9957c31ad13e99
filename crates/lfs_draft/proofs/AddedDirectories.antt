-- A directory put behind another, by the place of that one.
use Rattle.std.proofs.Common.{◌≡◌, ℕ, ◌+◌, ◌<◌, suc, zero, Bool, true, false, List, [], ◌∷◌, Some, None, length, refl, ap, ◌∙◌, arith}
use Rattle.std.specs.Prelude.{if◌then◌else◌, find, insert, slice_set, slice_index_or}
use Rattle.std.specs.List.{position}
use Rattle.std.proofs.lemmas.List.Quantifiers.{position-Some}
use Rattle.lfs_meta.specs.Body.{Pair}
use Rattle.lfs_fs.specs.Directory.{Directory, begins_at}
use Rattle.lfs_command.specs.DirectoryEdit.{touch_last}
use Rattle.lfs_command.specs.ThreadEdit.{add_after}
use Rattle.lfs_law.proofs.OneElement.{none_later}
use Rattle.lfs_draft.proofs.OneIndex.{nowhere}

-- put in behind a place, where the directory gets a new tail
abbrev pub put_behind : Directory → List Directory → ℕ → Directory → List Directory
put_behind new ds i d = slice_set (insert ds (suc i) new) i (touch_last (slice_index_or (insert ds (suc i) new) i d))

added_at : (k : Pair) (new : Directory) (ds : List Directory) (i : ℕ) (d : Directory) → i < length ds
    → begins_at k (slice_index_or ds i d) ≡ true
    → ((j : ℕ) → j < i → begins_at k (slice_index_or ds j d) ≡ false) → put_behind new ds i d ≡ add_after k new ds
unfolding add_after
added_at k new [] i d within passes before = absurd (omega arith)
added_at k new (e ∷ es) zero d within passes before = rw passes refl
added_at k new (e ∷ es) (suc i) d within passes before =
    rw (before 0 (omega arith)) (ap (λ (ds : List Directory). e ∷ ds) (added_at k new es i d (omega arith) passes
    (λ j below. before (suc j) (omega arith))))

pub added_behind : (k : Pair) (new : Directory) (ds all : List Directory) (i : ℕ) (d after : Directory) → position (begins_at k) ds ≡ Some i
    → all ≡ insert ds (i + 1) new
    → after ≡ touch_last (slice_index_or all i d) → slice_set all i after ≡ add_after k new ds
added_behind k new ds all i d after found put touched =
    let here = position-Some (begins_at k) ds i d found in
    let one_more : i + 1 ≡ suc i = omega arith in
    ap (slice_set all i) touched
    ∙ ap (λ (xs : List Directory). slice_set xs i (touch_last (slice_index_or xs i d))) (put ∙ ap (λ (n : ℕ). insert ds n new) one_more)
    ∙ added_at k new ds i d here.0 here.1 here.2

pub added_nowhere : (k : Pair) (new : Directory) (ds : List Directory) → find (begins_at k) ds ≡ None → ds ≡ add_after k new ds
unfolding add_after
added_nowhere k new [] none = refl
added_nowhere k new (d ∷ ds) none = by (begins_at k d) refl (added_nowhere k new ds (none_later (begins_at k) d ds none))
  where
    by : (b : Bool) → begins_at k d ≡ b → ds ≡ add_after k new ds → d ∷ ds ≡ (if b then touch_last d ∷ new ∷ ds else d ∷ add_after k new ds)
    by true is rest = absurd (grind (arith, is, none))
    by false is rest = ap (λ (es : List Directory). d ∷ es) rest

-- where no directory begins at the pair, nothing is put
pub not_added : (k : Pair) (new : Directory) (ds : List Directory) → position (begins_at k) ds ≡ None → ds ≡ add_after k new ds
not_added k new ds none = added_nowhere k new ds (nowhere (begins_at k) ds none)
