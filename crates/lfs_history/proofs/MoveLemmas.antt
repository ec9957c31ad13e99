-- Each move leads from a history to a history.
use Rattle.std.proofs.Common.{◌≡◌, ℕ, ◌+◌, ◌<◌, ◌≤◌, List, [], ◌∷◌, ◌++◌, length, Option, None, ap, sym, ◌∙◌, subst, arith, length-append, append-nil}
use Rattle.std.specs.Prelude.{reverse}
use Rattle.std.specs.List.{AllByRecursion}
use Rattle.std.proofs.lemmas.List.{reverse-append}
use Rattle.lfs_block.specs.Disk.{Disk, IsDisk}
use Rattle.lfs_block.specs.Patch.{ChangeSet, IsGrowth, AgreesOld, AgreesNew, applied, reverted}
use Rattle.lfs_block.specs.PatchLaws.{AppliedIsDisk, AppliedAgrees, AppliedRevertsBack, RevertedIsDisk, RevertedAgrees}
use Rattle.lfs_block.specs.PatchLaws.{RevertedAppliesAgain}
use Rattle.lfs_journal.specs.Book.{most_changes}
use Rattle.lfs_command.specs.Command.{Asked}
use Rattle.lfs_law.specs.Laws.{CutsFollow, CleansFollow}
use Rattle.lfs_command.specs.Planned.{Plans}
use Rattle.lfs_law.proofs.CarriedFollow.{carried_follow}
use Rattle.lfs_history.specs.History.{History, IsHistory, IsMounted, past_of, future_of, GoesBack, GoesForward}
use Rattle.lfs_history.specs.Moves.{Pushes, Undoes, Redoes, Forgets, but_one}
use Rattle.lfs_history.specs.Taking.{HasPlace}
use Rattle.lfs_history.proofs.KeptLemmas.{kept_history, kept_is_history, kept_room, pushes_kept}

-- ---- what is owed by the layers below

-- of changes that are taken back
pub record TakeBack : Type 0 where
  pub disk : RevertedIsDisk
  pub agrees : RevertedAgrees
  pub again : RevertedAppliesAgain

-- of changes that are made
pub record Make : Type 0 where
  pub disk : AppliedIsDisk
  pub agrees : AppliedAgrees
  pub back : AppliedRevertsBack

-- of commands
pub record Follow : Type 0 where
  pub cut : CutsFollow
  pub clean : CleansFollow

-- ---- lists

pub first_same : (x y : Disk) (xs ys : List Disk) → x ∷ xs ≡ y ∷ ys → x ≡ y
first_same x y xs ys h = cc

rest_same : (x y : Disk) (xs ys : List Disk) → x ∷ xs ≡ y ∷ ys → xs ≡ ys
rest_same x y xs ys h = cc

-- the latest change comes first
pub latest : (ps qs : List ChangeSet) (p : ChangeSet) → qs ≡ ps ++ p ∷ [] → reverse qs ≡ p ∷ reverse ps
latest ps qs p is = ap reverse is ∙ reverse-append ps (p ∷ [])

as_many : (xs ys us vs : List ChangeSet) (p : ChangeSet) → xs ≡ ys ++ p ∷ [] → vs ≡ p ∷ us → length (xs ++ us) ≡ length (ys ++ vs)
as_many xs ys us vs p made left =
    let a = ap length made in
    let b = ap length left in
    let c = length-append ys (p ∷ []) in
    let d = length-append xs us in
    let e = length-append ys vs in
    omega arith

-- ---- a change is taken back

pub undo_keeps : TakeBack → (old new : History) → IsHistory old → Undoes old new → IsHistory new
undo_keeps law old new h u =
    let p = u.change in
    let turned : reverse old.done ≡ p ∷ reverse new.done = latest new.done old.done p u.done in
    let back : GoesBack (p ∷ reverse new.done) old.present = subst (λ (ps : List ChangeSet). GoesBack ps old.present) turned h.back in
    let past : old.past ≡ past_of (p ∷ reverse new.done) old.present = h.past
    ∙ ap (λ (ps : List ChangeSet). past_of ps old.present) turned in
    let both : reverted p old.present ∷ past_of (reverse new.done) (reverted p old.present) ≡ new.present ∷ new.past = sym past ∙ u.past in
    let is : reverted p old.present ≡ new.present = first_same _ _ _ _ both in
    let again : applied p new.present ≡ old.present = ap (applied p) (sym is) ∙ law.again p old.present h.disk back.0.patch back.1 in
    let mounts : AllByRecursion IsMounted (new.present ∷ new.past) = subst (AllByRecursion IsMounted) u.past h.past_mounts in
    record {
      past = sym (rest_same _ _ _ _ both) ∙ ap (past_of (reverse new.done)) is;
      future = u.future ∙ ap (λ (x : List Disk). old.present ∷ x) h.future ∙ ap (λ (d : Disk). d ∷ future_of old.undone d) (sym again)
          ∙ ap (λ (us : List ChangeSet). future_of us new.present) (sym u.undone);
      back = subst (GoesBack (reverse new.done)) is back.2;
      on = subst (λ (us : List ChangeSet). GoesForward us new.present) (sym u.undone)
          (back.0, subst (AgreesOld p) is (law.agrees p old.present h.disk back.0.patch back.1), subst (GoesForward old.undone) (sym again) h.on);
      disk = subst IsDisk is (law.disk p old.present h.disk back.0.patch back.1).disk;
      mounts = mounts.0;
      past_mounts = mounts.1;
      future_mounts = subst (AllByRecursion IsMounted) (sym u.future) (h.mounts, h.future_mounts);
      few = subst (λ (n : ℕ). n ≤ most_changes) (as_many old.done new.done old.undone new.undone p u.done u.undone) h.few;
    }

-- ---- a change is made

-- the image after a change stands behind the one before it
pub record IsBehind (p : ChangeSet) (ds : List Disk) (ps : List ChangeSet) (d e : Disk) : Type 0 where
  pub past : d ∷ ds ≡ past_of (p ∷ reverse ps) e
  pub back : GoesBack (p ∷ reverse ps) e
  pub disk : IsDisk e

is_behind : Make → (p : ChangeSet) (h : History) (e : Disk) → IsHistory h → IsGrowth p → AgreesOld p h.present → e ≡ applied p h.present
    → IsBehind p h.past h.done h.present e
is_behind law p h e is growth stands to =
    let back : reverted p e ≡ h.present = ap (reverted p) to ∙ law.back p h.present is.disk growth.patch stands in
    record {
      past = ap (λ (x : List Disk). h.present ∷ x) is.past ∙ ap (λ (d : Disk). d ∷ past_of (reverse h.done) d) (sym back);
      back = (
        growth,
        subst (AgreesNew p) (sym to) (law.agrees p h.present is.disk growth.patch stands),
        subst (GoesBack (reverse h.done)) (sym back) is.back,
      );
      disk = subst IsDisk (sym to) (law.disk p h.present is.disk growth.patch stands).disk;
    }

pub redo_keeps : Make → (old new : History) → IsHistory old → Redoes old new → IsHistory new
redo_keeps law old new h u =
    let p = u.change in
    let on : GoesForward (p ∷ new.undone) old.present = subst (λ (us : List ChangeSet). GoesForward us old.present) u.undone h.on in
    let future : old.future ≡ future_of (p ∷ new.undone) old.present = h.future
    ∙ ap (λ (us : List ChangeSet). future_of us old.present) u.undone in
    let both : applied p old.present ∷ future_of new.undone (applied p old.present) ≡ new.present ∷ new.future = sym future ∙ u.future in
    let is : applied p old.present ≡ new.present = first_same _ _ _ _ both in
    let behind = is_behind law p old new.present h on.0 on.1 (sym is) in
    let turned : reverse new.done ≡ p ∷ reverse old.done = latest old.done new.done p u.done in
    let mounts : AllByRecursion IsMounted (new.present ∷ new.future) = subst (AllByRecursion IsMounted) u.future h.future_mounts in
    record {
      past = u.past ∙ behind.past ∙ ap (λ (ps : List ChangeSet). past_of ps new.present) (sym turned);
      future = sym (rest_same _ _ _ _ both) ∙ ap (future_of new.undone) is;
      back = subst (λ (ps : List ChangeSet). GoesBack ps new.present) (sym turned) behind.back;
      on = subst (GoesForward new.undone) is on.2;
      disk = behind.disk;
      mounts = mounts.0;
      past_mounts = subst (AllByRecursion IsMounted) (sym u.past) (h.mounts, h.past_mounts);
      future_mounts = mounts.1;
      few = subst (λ (n : ℕ). n ≤ most_changes) (sym (as_many new.done old.done new.undone old.undone p u.done u.undone)) h.few;
    }

-- the image that a planned patch makes mounts
pub planned_mounts : Follow → (d : Disk) (asked : Asked) (p : ChangeSet) → Plans d asked p → IsMounted (applied p d)
planned_mounts law d asked p plans =
    let follows = carried_follow law.cut law.clean plans.command plans.volume plans.next plans.carried in
    (plans.next, plans.after, follows.sound)

-- where all of the past is kept
change_keeps_all : Make → (p : ChangeSet) (old new : History) → IsHistory old → length old.done < most_changes → IsGrowth p
    → AgreesOld p old.present → IsMounted (applied p old.present) → Pushes p None old new → IsHistory new
change_keeps_all law p old new h room growth stands mounts u =
    let behind = is_behind law p old new.present h growth stands u.present in
    let turned : reverse new.done ≡ p ∷ reverse old.done = latest old.done new.done p u.done in
    let len : length (new.done ++ new.undone) ≡ length old.done + 1 =
    ap (λ (us : List ChangeSet). length (new.done ++ us)) u.undone ∙ ap length (append-nil new.done) ∙ ap length u.done
    ∙ length-append old.done (p ∷ []) in
    record {
      past = u.past ∙ behind.past ∙ ap (λ (ps : List ChangeSet). past_of ps new.present) (sym turned);
      future = u.future ∙ ap (λ (us : List ChangeSet). future_of us new.present) (sym u.undone);
      back = subst (λ (ps : List ChangeSet). GoesBack ps new.present) (sym turned) behind.back;
      on = subst (λ (us : List ChangeSet). GoesForward us new.present) (sym u.undone) tt;
      disk = behind.disk;
      mounts = subst IsMounted (sym u.present) mounts;
      past_mounts = subst (AllByRecursion IsMounted) (sym u.past) (h.mounts, h.past_mounts);
      future_mounts = subst (AllByRecursion IsMounted) (sym u.future) tt;
      few = omega arith;
    }

-- else it is pushed on what is kept
pub change_keeps : Make → (keep : Option ℕ) (p : ChangeSet) (old new : History) → IsHistory old → HasPlace keep old → IsGrowth p
    → AgreesOld p old.present → IsMounted (applied p old.present) → Pushes p keep old new → IsHistory new
change_keeps law keep p old new h place growth stands mounts u =
    change_keeps_all law p (kept_history (but_one keep) old) new (kept_is_history (but_one keep) old h) (kept_room keep old place)
    growth stands mounts (pushes_kept p keep old new place u)

pub push_keeps : Make → Follow → (asked : Asked) (keep : Option ℕ) (p : ChangeSet) (old new : History) → IsHistory old
    → HasPlace keep old → Plans old.present asked p → Pushes p keep old new → IsHistory new
push_keeps law follow asked keep p old new h place plans u =
    change_keeps law keep p old new h place plans.patch plans.stands (planned_mounts follow old.present asked p plans) u

-- ---- all is forgotten

pub fresh_is : (d : Disk) → IsDisk d → IsMounted d → (h : History) → h.past ≡ [] → h.present ≡ d → h.future ≡ [] → h.done ≡ []
    → h.undone ≡ [] → IsHistory h
fresh_is d disk mounts h past present future done undone =
    record {
      past = past ∙ ap (λ (ps : List ChangeSet). past_of (reverse ps) h.present) (sym done);
      future = future ∙ ap (λ (us : List ChangeSet). future_of us h.present) (sym undone);
      back = subst (λ (ps : List ChangeSet). GoesBack (reverse ps) h.present) (sym done) tt;
      on = subst (λ (us : List ChangeSet). GoesForward us h.present) (sym undone) tt;
      disk = subst IsDisk (sym present) disk;
      mounts = subst IsMounted (sym present) mounts;
      past_mounts = subst (AllByRecursion IsMounted) (sym past) tt;
      future_mounts = subst (AllByRecursion IsMounted) (sym future) tt;
      few = let a = ap length done in let b = ap length undone in let c = length-append h.done h.undone in omega arith;
    }

pub forget_keeps : (old new : History) → IsHistory old → Forgets old new → IsHistory new
forget_keeps old new h is =
    fresh_is old.present h.disk h.mounts new (ap (λ (x : History). x.past) is) (ap (λ (x : History). x.present) is)
    (ap (λ (x : History). x.future) is)
    (ap (λ (x : History). x.done) is) (ap (λ (x : History). x.undone) is)
