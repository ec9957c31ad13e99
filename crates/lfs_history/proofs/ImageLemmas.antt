-- Undo takes a command back, and undo and redo keep all images.
use Rattle.std.proofs.Common.{◌≡◌, ℕ, List, [], ◌∷◌, ◌++◌, reverse, refl, ap, sym, ◌∙◌, append_assoc, Option, Some, None}
use Rattle.std.proofs.lemmas.List.{reverse-append, same_from_push}
use Rattle.lfs_block.specs.Disk.{Disk}
use Rattle.lfs_block.specs.Patch.{ChangeSet}
use Rattle.lfs_history.specs.declared.step_fault.StepFault.TheVariants.{Refused, RefusedAt, NothingToUndo, NothingToRedo}
use Rattle.lfs_history.specs.declared.step_fault.StepFault.TheVariants.{JournalFull}
use Rattle.lfs_history.specs.History.{History}
use Rattle.lfs_history.specs.Moves.{Pushes, Undoes, Redoes, Repeats, kept_images, kept_changes, but_one}
use Rattle.lfs_history.specs.Taking.{Move, Do, Together, Undo, Redo, Forget, Reply, Takes, Run, HasPlace}
use Rattle.lfs_history.specs.Laws.{images, IsUndoOrRedo, UndoAndRedoKeepImages, UndoIsExact, UndoIsExactAsFarAsKept}
use Rattle.lfs_history.specs.TogetherLaws.{TogetherIsUndone}
use Rattle.lfs_history.proofs.KeptLemmas.{kept_history, pushes_kept}
use Rattle.lfs_history.proofs.RepeatLemmas.{repeats_keep, same_front}

-- the nearest image of the past becomes the present one: the images are the same
moved : (front : Disk) (past : List Disk) (x : Disk) (future : List Disk)
    → reverse past ++ front ∷ (x ∷ future) ≡ reverse (front ∷ past) ++ x ∷ future
moved front past x future =
    sym (ap (λ (r : List Disk). r ++ x ∷ future) (reverse-append (front ∷ []) past) ∙ append_assoc (reverse past) (front ∷ []) (x ∷ future))

undo_keeps_images : (old new : History) → Undoes old new → images new ≡ images old
undo_keeps_images old new u =
    ap (λ (f : List Disk). reverse new.past ++ new.present ∷ f) u.future
    ∙ moved new.present new.past old.present old.future
    ∙ ap (λ (p : List Disk). reverse p ++ old.present ∷ old.future) (sym u.past)

-- so many of one move
repeated_keeps_images : (move : History → History → Type 0) → ((old new : History) → move old new → images new ≡ images old)
    → (n : ℕ) (old new : History) → Repeats move n old new → images new ≡ images old
repeated_keeps_images move keeps n old new moves =
    repeats_keep (λ h. images h ≡ images old) move (λ mid next same moved. keeps mid next moved ∙ same) n old new refl moves

step_keeps_images : (step : Move) (reply : Reply) (old new : History) → IsUndoOrRedo step → Takes step reply old new
    → images new ≡ images old
step_keeps_images (Undo n) None old new is t = repeated_keeps_images Undoes undo_keeps_images n old new t
step_keeps_images (Undo n) (Some NothingToUndo) old new is t = ap images t.1
step_keeps_images (Redo n) None old new is t = repeated_keeps_images Redoes (λ a b u. sym (undo_keeps_images b a u)) n old new t
step_keeps_images (Redo n) (Some NothingToRedo) old new is t = ap images t.1
step_keeps_images (Undo n) (Some (RefusedAt at r)) old new is t = absurd t
step_keeps_images (Undo n) (Some (Refused r)) old new is t = absurd t
step_keeps_images (Undo n) (Some NothingToRedo) old new is t = absurd t
step_keeps_images (Undo n) (Some JournalFull) old new is t = absurd t
step_keeps_images (Redo n) (Some (RefusedAt at r)) old new is t = absurd t
step_keeps_images (Redo n) (Some (Refused r)) old new is t = absurd t
step_keeps_images (Redo n) (Some NothingToUndo) old new is t = absurd t
step_keeps_images (Redo n) (Some JournalFull) old new is t = absurd t
step_keeps_images (Do asked keep) reply old new is t = absurd is
step_keeps_images (Together asked keep) reply old new is t = absurd is
step_keeps_images Forget reply old new is t = absurd is

pub runs_keep_images : UndoAndRedoKeepImages
runs_keep_images [] [] old new each run = ap images run
runs_keep_images (step ∷ steps) (reply ∷ replies) old new each (mid, first, rest) =
    runs_keep_images steps replies mid new each.1 rest ∙ step_keeps_images step reply old mid each.0 first
runs_keep_images [] (reply ∷ replies) old new each run = absurd run
runs_keep_images (step ∷ steps) [] old new each run = absurd run

-- ---- a change taken back

-- what was kept beside the image that a change put in front is there again
pushed_is_undone : (p : ChangeSet) (keep : Option ℕ) (old mid new : History) → HasPlace keep old → Pushes p keep old mid
    → Run (Undo 1 ∷ []) (None ∷ []) mid new
    → (new.present ≡ old.present) × (new.past ≡ kept_images (but_one keep) old.past)
    × (new.done ≡ kept_changes (but_one keep) old.done)
pushed_is_undone p keep old mid new room pushed (after, (last, undoes, after_is), new_is) =
    let same : new ≡ last = new_is ∙ after_is in
    let kept = kept_history (but_one keep) old in
    let pushes = pushes_kept p keep old mid room pushed in
    let front = same_front last.present old.present last.past kept.past (sym undoes.past ∙ pushes.past) in
    let made : last.done ≡ kept.done = (same_from_push last.done kept.done undoes.change p (sym undoes.done ∙ pushes.done)).0 in
    (ap (λ (h : History). h.present) same ∙ front.0, ap (λ (h : History). h.past) same ∙ front.1, ap (λ (h : History). h.done) same ∙ made)

pub done_is_undone : UndoIsExact
done_is_undone asked old new (mid, does, rest) = pushed_is_undone does.change None old mid new does.room does.pushes rest

pub done_is_undone_as_kept : UndoIsExactAsFarAsKept
done_is_undone_as_kept asked keep old new (mid, does, rest) =
    pushed_is_undone does.change (Some keep) old mid new does.room does.pushes rest

pub together_is_undone : TogetherIsUndone
together_is_undone a asked keep old new (mid, does, rest) = pushed_is_undone does.change keep old mid new does.room does.pushes rest
