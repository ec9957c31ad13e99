-- The first step that is refused is refused on the history that was opened.
use Rattle.std.proofs.Common.{ℕ, Option, ap, map, ◌∙◌, sym, subst}
use Rattle.lfs_history.specs.Meaning.{step_of}
use Rattle.lfs_request.specs.declared.fault.Fault.{Fault}
use Rattle.lfs_request.specs.Fault.{fault_of_step}
use Rattle.lfs_change.specs.Change.{AnswersImage, RefusesImage}
use Rattle.lfs_change.proofs.ChangeLemmas.{stop_refuses}
use Rattle.lfs_change.proofs.beside.session_changed.Goals as goal

pub returns-in-Err-clause-answers : goal.returns-in-Err-clause-answers
returns-in-Err-clause-answers c disk kept denotes =
    let o = c.outcome_of_stop.result in
    let steps = map step_of c.args.steps.now in
    let stopped = c.in-Err.stopped in
    let journal = c.args.journal.items in
    let refuses = stop_refuses stopped.fault steps stopped.at disk journal c.args.session c.take_all.new.self denotes c.in-Err.ensures.refused in
    subst (λ (x : Option Fault). AnswersImage x steps disk journal o) (sym c.outcome_of_stop.ensures.fault) (
      ap (λ v. v.items) c.outcome_of_stop.ensures.kept.0 ∙ kept,
      c.outcome_of_stop.ensures.kept.1,
      subst (λ (n : ℕ). RefusesImage steps n disk journal (fault_of_step stopped.fault)) (sym c.outcome_of_stop.ensures.at) refuses,
    )
