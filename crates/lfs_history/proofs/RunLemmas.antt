-- Runs lead from a history to a history.
use Rattle.std.proofs.Common.{◌≡◌, [], ◌∷◌, sym, subst, Some, None}
use Rattle.lfs_history.specs.declared.step_fault.StepFault.TheVariants.{Refused, RefusedAt, NothingToUndo, NothingToRedo, JournalFull}
use Rattle.lfs_history.specs.History.{History, IsHistory}
use Rattle.lfs_journal.specs.JointLaws.{TogetherApplies}
use Rattle.lfs_history.specs.Moves.{Undoes, Redoes}
use Rattle.lfs_history.specs.Taking.{Move, Do, Together, Undo, Redo, Forget, Reply, Takes}
use Rattle.lfs_history.specs.Laws.{RunsKeepHistories}
use Rattle.lfs_history.proofs.MoveLemmas.{TakeBack, Make, Follow, undo_keeps, redo_keeps, push_keeps, forget_keeps}
use Rattle.lfs_history.proofs.RepeatLemmas.{repeats_keep}
use Rattle.lfs_history.proofs.TogetherLemmas.{together_keeps}

same_keeps : (old new : History) → IsHistory old → new ≡ old → IsHistory new
same_keeps old new h is = subst IsHistory (sym is) h

step_keeps : TakeBack → Make → Follow → TogetherApplies → (step : Move) (reply : Reply) (old new : History) → Takes step reply old new → IsHistory old
    → IsHistory new
step_keeps back make follow joint (Do asked keep) None old new t h =
    push_keeps make follow asked keep t.change old new h t.room t.plans t.pushes
step_keeps back make follow joint (Do asked keep) (Some JournalFull) old new t h = same_keeps old new h t.1
step_keeps back make follow joint (Do asked keep) (Some (Refused r)) old new t h = same_keeps old new h t.2
step_keeps back make follow joint (Together [] keep) None old new t h = same_keeps old new h t
step_keeps back make follow joint (Together (a ∷ asked) keep) None old new t h =
    together_keeps make follow joint (a ∷ asked) keep old new t h
step_keeps back make follow joint (Together asked keep) (Some JournalFull) old new t h = same_keeps old new h t.1
step_keeps back make follow joint (Together asked keep) (Some (RefusedAt at r)) old new t h = same_keeps old new h t.2
step_keeps back make follow joint (Undo n) None old new t h = repeats_keep IsHistory Undoes (undo_keeps back) n old new h t
step_keeps back make follow joint (Undo n) (Some NothingToUndo) old new t h = same_keeps old new h t.1
step_keeps back make follow joint (Redo n) None old new t h = repeats_keep IsHistory Redoes (redo_keeps make) n old new h t
step_keeps back make follow joint (Redo n) (Some NothingToRedo) old new t h = same_keeps old new h t.1
step_keeps back make follow joint Forget None old new t h = forget_keeps old new h t
step_keeps back make follow joint (Do asked keep) (Some (RefusedAt at r)) old new t h = absurd t
step_keeps back make follow joint (Together asked keep) (Some (Refused r)) old new t h = absurd t
step_keeps back make follow joint (Together asked keep) (Some NothingToUndo) old new t h = absurd t
step_keeps back make follow joint (Together asked keep) (Some NothingToRedo) old new t h = absurd t
step_keeps back make follow joint (Do asked keep) (Some NothingToUndo) old new t h = absurd t
step_keeps back make follow joint (Do asked keep) (Some NothingToRedo) old new t h = absurd t
step_keeps back make follow joint (Undo n) (Some (RefusedAt at r)) old new t h = absurd t
step_keeps back make follow joint (Undo n) (Some (Refused r)) old new t h = absurd t
step_keeps back make follow joint (Undo n) (Some NothingToRedo) old new t h = absurd t
step_keeps back make follow joint (Undo n) (Some JournalFull) old new t h = absurd t
step_keeps back make follow joint (Redo n) (Some (RefusedAt at r)) old new t h = absurd t
step_keeps back make follow joint (Redo n) (Some (Refused r)) old new t h = absurd t
step_keeps back make follow joint (Redo n) (Some NothingToUndo) old new t h = absurd t
step_keeps back make follow joint (Redo n) (Some JournalFull) old new t h = absurd t
step_keeps back make follow joint Forget (Some fault) old new t h = absurd t

pub runs_keep : TakeBack → Make → Follow → TogetherApplies → RunsKeepHistories
runs_keep back make follow joint [] [] old new run h = same_keeps old new h run
runs_keep back make follow joint (step ∷ steps) (reply ∷ replies) old new (mid, first, rest) h =
    runs_keep back make follow joint steps replies mid new rest (step_keeps back make follow joint step reply old mid first h)
runs_keep back make follow joint [] (reply ∷ replies) old new run h = absurd run
runs_keep back make follow joint (step ∷ steps) [] old new run h = absurd run
