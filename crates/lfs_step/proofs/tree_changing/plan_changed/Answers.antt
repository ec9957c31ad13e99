-- Each change carries out what is planned of its rows, with its bound.
use Rattle.std.proofs.Common.{inl, inr}
use Rattle.lfs_step.proofs.tree_changing.plan_changed.Goals as goal

pub returns-in-Put-clause-answers : goal.returns-in-Put-clause-answers
returns-in-Put-clause-answers c = rw c.in-Put.is c.rows_changed.ensures.answers

pub returns-in-Sync-clause-answers : goal.returns-in-Sync-clause-answers
returns-in-Sync-clause-answers c = rw c.in-Sync.is c.rows_changed-in-Sync.ensures.answers

pub returns-in-Remove-clause-answers : goal.returns-in-Remove-clause-answers
returns-in-Remove-clause-answers c = elim c.in-Remove.is [
  | inl is ↦ rw is.1 c.rows_changed-in-Remove.ensures.answers
  | inr is ↦ rw is.1 c.rows_changed-in-Remove.ensures.answers
]
