-- A step that is refused leaves the history.
use Rattle.std.proofs.Common.{◌≡◌, Some}
use Rattle.lfs_history.specs.declared.step_fault.StepFault.{StepFault}
use Rattle.lfs_history.specs.declared.step_fault.StepFault.TheVariants.{Refused, RefusedAt, NothingToUndo, NothingToRedo, JournalFull}
use Rattle.lfs_history.specs.History.{History}
use Rattle.lfs_history.specs.Taking.{Move, Do, Together, Undo, Redo, Forget, Takes}

pub refused_keeps : (step : Move) (f : StepFault) (old new : History) → Takes step (Some f) old new → new ≡ old
refused_keeps (Do asked keep) JournalFull old new takes = takes.1
refused_keeps (Do asked keep) (Refused r) old new takes = takes.2
refused_keeps (Do asked keep) (RefusedAt at r) old new takes = absurd takes
refused_keeps (Do asked keep) NothingToUndo old new takes = absurd takes
refused_keeps (Do asked keep) NothingToRedo old new takes = absurd takes
refused_keeps (Together asked keep) JournalFull old new takes = takes.1
refused_keeps (Together asked keep) (RefusedAt at r) old new takes = takes.2
refused_keeps (Together asked keep) (Refused r) old new takes = absurd takes
refused_keeps (Together asked keep) NothingToUndo old new takes = absurd takes
refused_keeps (Together asked keep) NothingToRedo old new takes = absurd takes
refused_keeps (Undo n) NothingToUndo old new takes = takes.1
refused_keeps (Undo n) (RefusedAt at r) old new takes = absurd takes
refused_keeps (Undo n) (Refused r) old new takes = absurd takes
refused_keeps (Undo n) NothingToRedo old new takes = absurd takes
refused_keeps (Undo n) JournalFull old new takes = absurd takes
refused_keeps (Redo n) NothingToRedo old new takes = takes.1
refused_keeps (Redo n) (RefusedAt at r) old new takes = absurd takes
refused_keeps (Redo n) (Refused r) old new takes = absurd takes
refused_keeps (Redo n) NothingToUndo old new takes = absurd takes
refused_keeps (Redo n) JournalFull old new takes = absurd takes
refused_keeps Forget f old new takes = absurd takes
