-- Moves keep the size of an image's blocks.
use Rattle.std.proofs.Common.{◌≡◌, ℕ, zero, suc, List, [], ◌∷◌, Some, None, refl, ap, sym, ◌∙◌}
use Rattle.std.specs.Prelude.{reverse}
use Rattle.lfs_block.specs.Disk.{Disk}
use Rattle.lfs_block.specs.Patch.{ChangeSet, applied, reverted}
use Rattle.lfs_history.specs.declared.step_fault.StepFault.TheVariants.{Refused, RefusedAt, NothingToUndo, NothingToRedo}
use Rattle.lfs_history.specs.declared.step_fault.StepFault.TheVariants.{JournalFull}
use Rattle.lfs_history.specs.History.{History, IsHistory, past_of, future_of}
use Rattle.lfs_history.specs.Moves.{Undoes, Redoes, Repeats}
use Rattle.lfs_history.specs.Taking.{Move, Do, Together, Undo, Redo, Forget, Reply, Takes}
use Rattle.lfs_history.specs.Laws.{RunsKeepHistories}
use Rattle.lfs_history.proofs.MoveLemmas.{latest, first_same}
use Rattle.lfs_history.proofs.BookLemmas.{applied_size, reverted_size}

same_size : (d e : Disk) → e ≡ d → e.size ≡ d.size
same_size d e is = ap (λ (x : Disk). x.size) is

made_size : (p : ChangeSet) (d e : Disk) → e ≡ applied p d → e.size ≡ d.size
made_size p d e is = ap (λ (x : Disk). x.size) is ∙ applied_size p d

back_size : (p : ChangeSet) (d e : Disk) → e ≡ reverted p d → e.size ≡ d.size
back_size p d e is = ap (λ (x : Disk). x.size) is ∙ reverted_size p d

undone_size : (old new : History) → IsHistory old → Undoes old new → new.present.size ≡ old.present.size
undone_size old new h u =
    let p = u.change in
    let past : old.past ≡ past_of (p ∷ reverse new.done) old.present = h.past
    ∙ ap (λ (ps : List ChangeSet). past_of ps old.present) (latest new.done old.done p u.done) in
    back_size p old.present new.present (first_same _ _ _ _ (sym u.past ∙ past))

redone_size : (old new : History) → IsHistory old → Redoes old new → new.present.size ≡ old.present.size
redone_size old new h u =
    let p = u.change in
    let future : old.future ≡ future_of (p ∷ new.undone) old.present = h.future
    ∙ ap (λ (us : List ChangeSet). future_of us old.present) u.undone in
    made_size p old.present new.present (first_same _ _ _ _ (sym u.future ∙ future))

kept_size : (old new : History) → new ≡ old → new.present.size ≡ old.present.size
kept_size old new is = same_size old.present new.present (ap (λ (h : History). h.present) is)

-- so many of one move
repeated_size : (move : History → History → Type 0)
    → ((old new : History) → IsHistory old → move old new → IsHistory new × (new.present.size ≡ old.present.size))
    → (n : ℕ) (old new : History) → IsHistory old → Repeats move n old new → new.present.size ≡ old.present.size
repeated_size move keeps zero old new h same = kept_size old new same
repeated_size move keeps (suc n) old new h (mid, first, rest) =
    let is = keeps old mid h first in
    repeated_size move keeps n mid new is.0 rest ∙ is.1

undo_keeps_size : RunsKeepHistories → (old new : History) → IsHistory old → Undoes old new
    → IsHistory new × (new.present.size ≡ old.present.size)
undo_keeps_size keep old new h u = (keep (Undo 1 ∷ []) (None ∷ []) old new (new, (new, u, refl), refl) h, undone_size old new h u)

redo_keeps_size : RunsKeepHistories → (old new : History) → IsHistory old → Redoes old new
    → IsHistory new × (new.present.size ≡ old.present.size)
redo_keeps_size keep old new h u = (keep (Redo 1 ∷ []) (None ∷ []) old new (new, (new, u, refl), refl) h, redone_size old new h u)

pub taken_size : RunsKeepHistories → (step : Move) (reply : Reply) (old new : History) → IsHistory old → Takes step reply old new
    → new.present.size ≡ old.present.size
taken_size law (Do asked keep) None old new h does = made_size does.change old.present new.present does.pushes.present
taken_size law (Do asked keep) (Some JournalFull) old new h takes = kept_size old new takes.1
taken_size law (Do asked keep) (Some (Refused r)) old new h takes = kept_size old new takes.2
taken_size law (Do asked keep) (Some (RefusedAt at r)) old new h takes = absurd takes
taken_size law (Together [] keep) None old new h takes = kept_size old new takes
taken_size law (Together (a ∷ asked) keep) None old new h does = made_size does.change old.present new.present does.pushes.present
taken_size law (Together asked keep) (Some JournalFull) old new h takes = kept_size old new takes.1
taken_size law (Together asked keep) (Some (RefusedAt at r)) old new h takes = kept_size old new takes.2
taken_size law (Together asked keep) (Some (Refused r)) old new h takes = absurd takes
taken_size law (Together asked keep) (Some NothingToUndo) old new h takes = absurd takes
taken_size law (Together asked keep) (Some NothingToRedo) old new h takes = absurd takes
taken_size law (Do asked keep) (Some NothingToUndo) old new h takes = absurd takes
taken_size law (Do asked keep) (Some NothingToRedo) old new h takes = absurd takes
taken_size law (Undo n) None old new h takes = repeated_size Undoes (undo_keeps_size law) n old new h takes
taken_size law (Undo n) (Some NothingToUndo) old new h takes = kept_size old new takes.1
taken_size law (Undo n) (Some (RefusedAt at r)) old new h takes = absurd takes
taken_size law (Undo n) (Some (Refused r)) old new h takes = absurd takes
taken_size law (Undo n) (Some NothingToRedo) old new h takes = absurd takes
taken_size law (Undo n) (Some JournalFull) old new h takes = absurd takes
taken_size law (Redo n) None old new h takes = repeated_size Redoes (redo_keeps_size law) n old new h takes
taken_size law (Redo n) (Some NothingToRedo) old new h takes = kept_size old new takes.1
taken_size law (Redo n) (Some (RefusedAt at r)) old new h takes = absurd takes
taken_size law (Redo n) (Some (Refused r)) old new h takes = absurd takes
taken_size law (Redo n) (Some NothingToUndo) old new h takes = absurd takes
taken_size law (Redo n) (Some JournalFull) old new h takes = absurd takes
taken_size law Forget None old new h takes = same_size old.present new.present (ap (λ (x : History). x.present) takes)
taken_size law Forget (Some fault) old new h takes = absurd takes
