-- The status is the fault's, or 0.
use Rattle.std.proofs.Common.{ap, sym, ◌∙◌}
use Rattle.lfs_request.specs.Fault.{status_of}
use Rattle.lfs_request.proofs.outcome.Outcome.placed.Goals as goal
use Rattle.lfs_request.proofs.outcome.Outcome.placed.Goals.{in-None, in-Some}

pub returns-clause-status : goal.returns-clause-status
returns-clause-status c =
    elim c.match-fault.branch [
      | in-None w ↦ w.status-is ∙ ap status_of (sym w.in-None.is)
      | in-Some w ↦ w.status-is ∙ w.status-status.ensures ∙ ap status_of (sym w.in-Some.is)
    ]
