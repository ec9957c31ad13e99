-- An image between changes goes back and on with them, and all images stay.
use Rattle.std.proofs.Common.{◌≡◌, ℕ, ◌+◌, ◌<◌, List, [], ◌∷◌, ◌++◌, length, take, drop, get_or, ap, sym, ◌∙◌, subst, arith, append_assoc}
use Rattle.std.specs.Prelude.{reverse}
use Rattle.std.proofs.lemmas.List.{reverse-append}
use Rattle.lfs_block.specs.Disk.{Disk, IsDisk, erased_block}
use Rattle.lfs_block.specs.Overlay.{IsOverlay}
use Rattle.lfs_block.specs.Patch.{ChangeSet, IsGrowth, AgreesOld, AgreesNew, applied, reverted}
use Rattle.lfs_history.specs.History.{GoesBack, GoesForward, past_of, future_of}
use Rattle.lfs_history.proofs.MoveLemmas.{TakeBack, Make, latest}
use Rattle.lfs_session.proofs.PlaceLemmas.{IsAt, is_at}
use Rattle.lfs_step.specs.Between.{IsBetween, images_at, images_behind}

-- the change that is read at a place stands there
pub is_here : (ps : List ChangeSet) (i j : ℕ) (read : ChangeSet) → j ≡ i + 1 → i < length ps → read ≡ get_or ps i read
    → IsAt ps i j (get_or ps i read)
is_here ps i j read next within is = is_at ps i j (get_or ps i read) next within (ap (λ (p : ChangeSet). get_or ps i p) is)

-- ---- back

-- the latest change agrees with the image
pub back_agrees : (d : Disk) (ps : List ChangeSet) (i j : ℕ) (p : ChangeSet) → IsAt ps i j p → IsBetween d ps j → IsGrowth p × AgreesNew p d
back_agrees d ps i j p at b =
    let back : GoesBack (p ∷ reverse (take i ps)) d = subst (λ (qs : List ChangeSet). GoesBack qs d)
    (latest (take i ps) (take j ps) p at.taken) b.back in
    (back.0, back.1)

-- the image before a change
pub record IsBack (d e : Disk) (ps : List ChangeSet) (i j : ℕ) : Type 0 where
  pub between : IsBetween e ps i
  pub size : e.size ≡ d.size
  pub images : images_at e ps i ≡ images_at d ps j

turned : (e : Disk) (ds es : List Disk) → reverse (e ∷ ds) ++ es ≡ reverse ds ++ e ∷ es
turned e ds es = ap (λ (xs : List Disk). xs ++ es) (reverse-append (e ∷ []) ds) ∙ append_assoc (reverse ds) (e ∷ []) es

pub goes_back : TakeBack → (d e : Disk) (ps : List ChangeSet) (i j : ℕ) (p : ChangeSet) → IsAt ps i j p → IsBetween d ps j → e ≡ reverted p d
    → IsBack d e ps i j
goes_back law d e ps i j p at b is =
    let qs = reverse (take i ps) in
    let us = drop j ps in
    let turn : reverse (take j ps) ≡ p ∷ qs = latest (take i ps) (take j ps) p at.taken in
    let back : GoesBack (p ∷ qs) d = subst (λ (xs : List ChangeSet). GoesBack xs d) turn b.back in
    let to = law.disk p d b.disk back.0.patch back.1 in
    let again : applied p e ≡ d = ap (applied p) is ∙ law.again p d b.disk back.0.patch back.1 in
    let before : images_at d ps j ≡ reverse (e ∷ past_of qs e) ++ d ∷ future_of us d =
    ap (λ (xs : List ChangeSet). reverse (past_of xs d) ++ d ∷ future_of us d) turn
    ∙ ap (λ (x : Disk). reverse (x ∷ past_of qs x) ++ d ∷ future_of us d) (sym is) in
    let after : images_at e ps i ≡ reverse (past_of qs e) ++ e ∷ d ∷ future_of us d =
    ap (λ (xs : List ChangeSet). reverse (past_of qs e) ++ e ∷ future_of xs e) at.left
    ∙ ap (λ (x : Disk). reverse (past_of qs e) ++ e ∷ x ∷ future_of us x) again in
    record {
      between = record {
        disk = subst IsDisk (sym is) to.disk;
        within = let a = at.within in omega arith;
        back = subst (GoesBack qs) (sym is) back.2;
        on = subst (λ (xs : List ChangeSet). GoesForward xs e) (sym at.left)
            (back.0, subst (AgreesOld p) (sym is) (law.agrees p d b.disk back.0.patch back.1), subst (GoesForward us) (sym again) b.on);
      };
      size = ap (λ (x : Disk). x.size) is ∙ to.size;
      images = after ∙ sym (turned e (past_of qs e) (d ∷ future_of us d)) ∙ sym before;
    }

-- ---- on

-- the next change agrees with the image
pub on_agrees : (d : Disk) (ps : List ChangeSet) (i j : ℕ) (p : ChangeSet) → IsAt ps i j p → IsBetween d ps i → IsGrowth p × AgreesOld p d
on_agrees d ps i j p at b =
    let on : GoesForward (p ∷ drop j ps) d = subst (λ (us : List ChangeSet). GoesForward us d) at.left b.on in
    (on.0, on.1)

-- the image after a change
pub record IsOn (d e : Disk) (ps : List ChangeSet) (i j : ℕ) : Type 0 where
  pub between : IsBetween e ps j
  pub size : e.size ≡ d.size
  pub later : images_behind d ps i ≡ e ∷ images_behind e ps j

pub goes_on : Make → (d e : Disk) (ps : List ChangeSet) (i j : ℕ) (p : ChangeSet) → IsAt ps i j p → IsBetween d ps i → e ≡ applied p d
    → IsOn d e ps i j
goes_on law d e ps i j p at b is =
    let on : GoesForward (p ∷ drop j ps) d = subst (λ (us : List ChangeSet). GoesForward us d) at.left b.on in
    let to = law.disk p d b.disk on.0.patch on.1 in
    let back : reverted p e ≡ d = ap (reverted p) is ∙ law.back p d b.disk on.0.patch on.1 in
    record {
      between = record {
        disk = subst IsDisk (sym is) to.disk;
        within = let a = at.within in let n = at.next in omega arith;
        back = subst (λ (qs : List ChangeSet). GoesBack qs e) (sym (latest (take i ps) (take j ps) p at.taken))
            (on.0, subst (AgreesNew p) (sym is) (law.agrees p d b.disk on.0.patch on.1), subst (GoesBack (reverse (take i ps))) (sym back) b.back);
        on = subst (GoesForward (drop j ps)) (sym is) on.2;
      };
      size = ap (λ (x : Disk). x.size) is ∙ to.size;
      later = ap (λ (us : List ChangeSet). future_of us d) at.left ∙ ap (λ (x : Disk). x ∷ future_of (drop j ps) x) (sym is);
    }

-- the image after it may be laid over this one
pub lies_over : (d : Disk) (ps : List ChangeSet) (i j : ℕ) (p : ChangeSet) (block : List ℕ) → IsAt ps i j p → IsBetween d ps i
    → block ≡ erased_block d.size → IsOverlay p block d
lies_over d ps i j p block at b erased =
    let on = on_agrees d ps i j p at b in
    record { patch = on.0.patch; size = on.1.size; erased = erased; disk = b.disk }
