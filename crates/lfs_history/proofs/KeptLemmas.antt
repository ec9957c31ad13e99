-- What is kept of the past.
use Rattle.std.proofs.Common.{◌≡◌, inl, inr, ℕ, zero, suc, ◌-◌, ◌<◌, List, [], ◌∷◌, ◌++◌, length, take, drop, refl, ap, sym, ◌∙◌}
use Rattle.std.proofs.Common.{Option, Some, None, subst, arith, length-append, length-drop}
use Rattle.std.specs.Prelude.{reverse}
use Rattle.std.specs.List.{AllByRecursion}
use Rattle.std.proofs.lemmas.Bool.{cases_lt}
use Rattle.std.proofs.lemmas.List.{reverse-append, length-reverse, take-append-drop, take_at, take_all, drop-append-le, length_push}
use Rattle.lfs_block.specs.Disk.{Disk}
use Rattle.lfs_block.specs.Patch.{ChangeSet, reverted}
use Rattle.lfs_journal.specs.Book.{most_changes}
use Rattle.lfs_history.specs.History.{History, IsHistory, IsMounted, past_of, GoesBack}
use Rattle.lfs_history.specs.Moves.{Pushes, kept_images, kept_changes, dropped, but_one}
use Rattle.lfs_history.specs.Taking.{HasPlace}

-- ---- lists

-- the last of a list, turned round, are the first of it turned round
last_turned : (n : ℕ) (ps : List ChangeSet) → reverse (drop (length ps - n) ps) ≡ take n (reverse ps)
last_turned n ps =
    let k : ℕ = length ps - n in
    let split : reverse (take k ps ++ drop k ps) ≡ reverse (drop k ps) ++ reverse (take k ps) = reverse-append (take k ps) (drop k ps) in
    let turned : reverse ps ≡ reverse (drop k ps) ++ reverse (take k ps) = ap reverse (sym (take-append-drop k ps)) ∙ split in
    let left = length-drop k ps in
    let round = length-reverse (drop k ps) in
    let complete = length-reverse ps in
    elim (cases_lt n (length ps)) [
      | inl less ↦ sym (ap (take n) turned ∙ take_at (reverse (drop k ps)) (reverse (take k ps)) n (omega arith))
      | inr most ↦
          let none : k ≡ 0 = omega arith in
          ap (λ (i : ℕ). reverse (drop i ps)) none ∙ sym (take_all n (reverse ps) (omega arith))
    ]

past_of_first : (n : ℕ) (ps : List ChangeSet) (d : Disk) → past_of (take n ps) d ≡ take n (past_of ps d)
past_of_first zero ps d = refl
past_of_first (suc n) [] d = refl
past_of_first (suc n) (p ∷ ps) d = ap (λ (ds : List Disk). reverted p d ∷ ds) (past_of_first n ps (reverted p d))

first_go_back : (n : ℕ) (ps : List ChangeSet) (d : Disk) → GoesBack ps d → GoesBack (take n ps) d
first_go_back zero ps d back = tt
first_go_back (suc n) [] d back = tt
first_go_back (suc n) (p ∷ ps) d (growth, agrees, more) = (growth, agrees, first_go_back n ps (reverted p d) more)

each_of_first : (P : Disk → Type 0) (n : ℕ) (ds : List Disk) → AllByRecursion P ds → AllByRecursion P (take n ds)
each_of_first P zero ds each = tt
each_of_first P (suc n) [] each = tt
each_of_first P (suc n) (d ∷ ds) each = (each.0, each_of_first P n ds each.1)

-- ---- what is kept

-- the kept changes lead back through the kept images
pub kept_past : (keep : Option ℕ) (ps : List ChangeSet) (d : Disk)
    → past_of (reverse (kept_changes keep ps)) d ≡ kept_images keep (past_of (reverse ps) d)
kept_past None ps d = refl
kept_past (Some n) ps d = ap (λ (qs : List ChangeSet). past_of qs d) (last_turned n ps) ∙ past_of_first n (reverse ps) d

kept_go_back : (keep : Option ℕ) (ps : List ChangeSet) (d : Disk) → GoesBack (reverse ps) d → GoesBack (reverse (kept_changes keep ps)) d
kept_go_back None ps d back = back
kept_go_back (Some n) ps d back =
    subst (λ (qs : List ChangeSet). GoesBack qs d) (sym (last_turned n ps)) (first_go_back n (reverse ps) d back)

each_kept : (P : Disk → Type 0) (keep : Option ℕ) (ds : List Disk) → AllByRecursion P ds → AllByRecursion P (kept_images keep ds)
each_kept P None ds each = each
each_kept P (Some n) ds each = each_of_first P n ds each

-- a history without the images that aren't kept
abbrev pub kept_history : Option ℕ → History → History
kept_history keep h = record {
  past = kept_images keep h.past;
  present = h.present;
  future = h.future;
  done = kept_changes keep h.done;
  undone = h.undone;
}

pub kept_is_history : (keep : Option ℕ) (h : History) → IsHistory h → IsHistory (kept_history keep h)
kept_is_history keep h is = record {
  past = ap (kept_images keep) is.past ∙ sym (kept_past keep h.done h.present);
  future = is.future;
  back = kept_go_back keep h.done h.present is.back;
  on = is.on;
  disk = is.disk;
  mounts = is.mounts;
  past_mounts = each_kept IsMounted keep h.past is.past_mounts;
  future_mounts = is.future_mounts;
  few =
      let few = is.few in
      let all = length-append h.done h.undone in
      let less = length-append (kept_changes keep h.done) h.undone in
      let kept = length-drop (dropped keep (length h.done)) h.done in
      omega arith;
}

-- ---- what is put in front

-- it is kept, and of what stands behind it one less
pub image_kept : (keep : Option ℕ) (h : History) (d : Disk) (ds : List Disk) → HasPlace keep h
    → kept_images keep (d ∷ ds) ≡ d ∷ kept_images (but_one keep) ds
image_kept None h d ds place = refl
image_kept (Some n) h d ds place =
    let positive = place.0 in
    let one : n ≡ suc (n - 1) = omega arith in
    ap (λ (k : ℕ). take k (d ∷ ds)) one

pub change_kept : (keep : Option ℕ) (h : History) (ps : List ChangeSet) (p : ChangeSet) → HasPlace keep h
    → kept_changes keep (ps ++ p ∷ []) ≡ kept_changes (but_one keep) ps ++ p ∷ []
change_kept None h ps p place = refl
change_kept (Some n) h ps p place =
    let positive = place.0 in
    let len = length_push ps p in
    let same : length (ps ++ p ∷ []) - n ≡ length ps - (n - 1) = omega arith in
    ap (λ (k : ℕ). drop k (ps ++ p ∷ [])) same ∙ drop-append-le (length ps - (n - 1)) ps (p ∷ []) (omega arith)

pub kept_room : (keep : Option ℕ) (h : History) → HasPlace keep h → length (kept_changes (but_one keep) h.done) < most_changes
kept_room None h place = place
kept_room (Some n) h place =
    let positive = place.0 in
    let few = place.1 in
    let len = length-drop (length h.done - (n - 1)) h.done in
    omega arith

-- a change that is pushed is pushed on what is kept beside it
pub pushes_kept : (p : ChangeSet) (keep : Option ℕ) (old new : History) → HasPlace keep old → Pushes p keep old new
    → Pushes p None (kept_history (but_one keep) old) new
pushes_kept p keep old new place u = record {
  past = u.past ∙ image_kept keep old old.present old.past place;
  present = u.present;
  future = u.future;
  done = u.done ∙ change_kept keep old old.done p place;
  undone = u.undone;
}
