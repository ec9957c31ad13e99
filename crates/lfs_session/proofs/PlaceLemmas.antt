-- A history is one list of changes, cut at a place.
use Rattle.std.proofs.Common.{◌≡◌, ℕ, ◌+◌, ◌<◌, ◌≤◌, List, [], ◌∷◌, ◌++◌, length, take, drop, get_or, ap, sym, ◌∙◌, subst, arith, length-append}
use Rattle.std.specs.Prelude.{reverse, Option}
use Rattle.std.proofs.lemmas.List.{take_more, drop_more, take_all, drop_all, length-take-le, get_or_push}
use Rattle.lfs_block.specs.Disk.{Disk}
use Rattle.lfs_block.specs.Patch.{ChangeSet, IsGrowth, AgreesOld, AgreesNew, applied, reverted}
use Rattle.lfs_command.specs.Command.{Asked}
use Rattle.lfs_command.specs.Planned.{Plans}
use Rattle.lfs_history.specs.History.{History, IsHistoryAt, IsMounted, history_at, past_of, future_of, GoesBack, GoesForward}
use Rattle.lfs_history.specs.Moves.{Pushes, Undoes, Redoes, kept_changes, but_one}
use Rattle.lfs_history.specs.Taking.{Does, HasPlace}
use Rattle.lfs_history.proofs.KeptLemmas.{kept_past, image_kept, change_kept}
use Rattle.lfs_history.proofs.MoveLemmas.{TakeBack, Make, Follow, change_keeps, latest, planned_mounts, undo_keeps, redo_keeps}

-- the change at a place, between those before it and those behind it
pub record IsAt (changes : List ChangeSet) (i j : ℕ) (p : ChangeSet) : Type 0 where
  pub next : j ≡ i + 1
  pub within : i < length changes
  pub taken : take j changes ≡ take i changes ++ p ∷ []
  pub left : drop i changes ≡ p ∷ drop j changes

pub is_at : (changes : List ChangeSet) (i j : ℕ) (p : ChangeSet) → j ≡ i + 1 → i < length changes → p ≡ get_or changes i p
    → IsAt changes i j p
is_at changes i j p next within is = record {
  next = next;
  within = within;
  taken = ap (λ (k : ℕ). take k changes) next ∙ take_more changes i p within ∙ ap (λ (q : ChangeSet). take i changes ++ q ∷ []) (sym is);
  left = drop_more changes i p within ∙ ap (λ (q : ChangeSet). q ∷ drop (i + 1) changes) (sym is)
      ∙ ap (λ (k : ℕ). p ∷ drop k changes) (sym next);
}

-- the latest change that was made agrees with the image
pub made_agrees : (d : Disk) (changes : List ChangeSet) (i j : ℕ) (p : ChangeSet) → IsAt changes i j p → IsHistoryAt d changes j
    → IsGrowth p × AgreesNew p d
made_agrees d changes i j p at h =
    let back : GoesBack (p ∷ reverse (take i changes)) d = subst (λ (ps : List ChangeSet). GoesBack ps d)
    (latest (take i changes) (take j changes) p at.taken) h.history.back in
    (back.0, back.1)

-- the next change to be made agrees with the image
pub next_agrees : (d : Disk) (changes : List ChangeSet) (i j : ℕ) (p : ChangeSet) → IsAt changes i j p → IsHistoryAt d changes i
    → IsGrowth p × AgreesOld p d
next_agrees d changes i j p at h =
    let on : GoesForward (p ∷ drop j changes) d = subst (λ (us : List ChangeSet). GoesForward us d) at.left h.history.on in
    (on.0, on.1)

-- a change leads between the images on its two sides
undoes_at : (d e : Disk) (changes : List ChangeSet) (i j : ℕ) (p : ChangeSet) → IsAt changes i j p → e ≡ reverted p d → d ≡ applied p e
    → Undoes (history_at d changes j) (history_at e changes i)
undoes_at d e changes i j p at down up = record {
  past = ap (λ (ps : List ChangeSet). past_of ps d) (latest (take i changes) (take j changes) p at.taken)
      ∙ ap (λ (x : Disk). x ∷ past_of (reverse (take i changes)) x) (sym down);
  future = ap (λ (us : List ChangeSet). future_of us e) at.left ∙ ap (λ (x : Disk). x ∷ future_of (drop j changes) x) (sym up);
  change = p;
  done = at.taken;
  undone = at.left;
}

-- a move to an image, at a place
pub record MovesTo (Moves : History → History → Type 0) (old : History) (e : Disk) (changes : List ChangeSet) (i : ℕ) : Type 0 where
  pub moves : Moves old (history_at e changes i)
  pub keeps : IsHistoryAt e changes i

pub undone_at : TakeBack → (d e : Disk) (changes : List ChangeSet) (i j : ℕ) (p : ChangeSet) → IsAt changes i j p → IsHistoryAt d changes j
    → e ≡ reverted p d → MovesTo Undoes (history_at d changes j) e changes i
undone_at law d e changes i j p at h is =
    let agrees = made_agrees d changes i j p at h in
    let undoes = undoes_at d e changes i j p at is (sym (law.again p d h.history.disk agrees.0.patch agrees.1) ∙ ap (applied p) (sym is)) in
    record {
      moves = undoes;
      keeps = record {
        within = let a = at.within in omega arith;
        history = undo_keeps law (history_at d changes j) (history_at e changes i) h.history undoes;
      };
    }

pub redone_at : Make → (d e : Disk) (changes : List ChangeSet) (i j : ℕ) (p : ChangeSet) → IsAt changes i j p → IsHistoryAt d changes i
    → e ≡ applied p d → MovesTo Redoes (history_at d changes i) e changes j
redone_at law d e changes i j p at h is =
    let agrees = next_agrees d changes i j p at h in
    let redoes = undoes_at e d changes i j p at (sym (law.back p d h.history.disk agrees.0.patch agrees.1) ∙ ap (reverted p) (sym is)) is in
    record {
      moves = redoes;
      keeps = record {
        within = let a = at.within in let b = at.next in omega arith;
        history = redo_keeps law (history_at d changes i) (history_at e changes j) h.history redoes;
      };
    }

-- the list once a change is put behind those that were made
pub record IsPut (old new : List ChangeSet) (i : ℕ) (p : ChangeSet) : Type 0 where
  pub all : new ≡ take i old ++ p ∷ []
  pub within : i ≤ length old

-- the place is one of the list
pub put_within : (old new : List ChangeSet) (i : ℕ) (p : ChangeSet) → IsPut old new i p → i < length new
put_within old new i p put =
    omega (arith, ap length put.all, length-append (take i old) (p ∷ []), length-take-le i old put.within)

-- it stands at the place
pub put_is : (old new : List ChangeSet) (i : ℕ) (p q : ChangeSet) → IsPut old new i p → q ≡ get_or new i q → q ≡ p
put_is old new i p q put read = read ∙ ap (λ (xs : List ChangeSet). get_or xs i q) put.all
    ∙ get_or_push (take i old) p q i (length-take-le i old put.within)

-- so the image that it makes is made of it
pub put_makes : (d e : Disk) (old new : List ChangeSet) (i : ℕ) (p q : ChangeSet) → IsPut old new i p → q ≡ get_or new i q → e ≡ applied q d
    → e ≡ applied p d
put_makes d e old new i p q put read is = is ∙ ap (λ (x : ChangeSet). applied x d) (put_is old new i p q put read)

-- what is kept then is all that is left, and what was put is in front
pub pushed_at : Make → (keep : Option ℕ) (d e : Disk) (old new kept : List ChangeSet) (i j : ℕ) (p : ChangeSet) → IsPut old new i p
    → kept ≡ kept_changes keep new → j ≡ length kept → IsHistoryAt d old i → HasPlace keep (history_at d old i) → IsGrowth p
    → AgreesOld p d → IsMounted (applied p d) → e ≡ applied p d → MovesTo (Pushes p keep) (history_at d old i) e kept j
pushed_at law keep d e old new kept i j p put latest_are many h place growth stands mounts to =
    let before = take i old in
    let left = kept_changes (but_one keep) before in
    let all : take j kept ≡ kept = take_all j kept (omega arith) in
    let none : drop j kept ≡ [] = drop_all j kept (omega arith) in
    let made : take j kept ≡ kept_changes keep (before ++ p ∷ []) = all ∙ latest_are ∙ ap (kept_changes keep) put.all in
    let beside : take j kept ≡ left ++ p ∷ [] = made ∙ change_kept keep (history_at d old i) before p place in
    let back : reverted p e ≡ d = ap (reverted p) to ∙ law.back p d h.history.disk growth.patch stands in
    let pushes : Pushes p keep (history_at d old i) (history_at e kept j) = record {
      past = ap (λ (ps : List ChangeSet). past_of ps e) (latest left (take j kept) p beside)
          ∙ ap (λ (x : Disk). x ∷ past_of (reverse left) x) back
          ∙ ap (λ (ds : List Disk). d ∷ ds) (kept_past (but_one keep) before d)
          ∙ sym (image_kept keep (history_at d old i) d (past_of (reverse before) d) place);
      present = to;
      future = ap (λ (us : List ChangeSet). future_of us e) none;
      done = made;
      undone = none;
    } in
    record {
      moves = pushes;
      keeps = record {
        within = omega arith;
        history = change_keeps law keep p (history_at d old i) (history_at e kept j) h.history place growth stands mounts pushes;
      };
    }

-- so it is once a command is done
pub done_at : Make → Follow → (asked : Asked) (keep : Option ℕ) (d e : Disk) (old new kept : List ChangeSet) (i j : ℕ) (p q : ChangeSet)
    → IsPut old new i p → q ≡ get_or new i q → kept ≡ kept_changes keep new → j ≡ length kept
    → IsHistoryAt d old i → HasPlace keep (history_at d old i) → Plans d asked p → e ≡ applied q d
    → MovesTo (Does asked keep) (history_at d old i) e kept j
done_at law follow asked keep d e old new kept i j p q put read latest_are many h place plans is =
    let to = pushed_at law keep d e old new kept i j p put latest_are many h place plans.patch plans.stands
    (planned_mounts follow d asked p plans) (put_makes d e old new i p q put read is) in
    record {
      moves = record { room = place; change = p; plans = plans; pushes = to.moves };
      keeps = to.keeps;
    }
