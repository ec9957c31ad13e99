-- What any step answers, by the laws of what it leaves.
use Rattle.lfs_step.specs.Outcome.{given}
use Rattle.lfs_step.proofs.EquationsMet.{keeps_equations, keeps_needs}
use Rattle.lfs_step.proofs.HistoriesLeft.{keeps}
use Rattle.lfs_step.proofs.running.run.Goals as goal

pub returns : goal.returns
returns g c =
    let step = c.args.step in
    let handed = given c.args.size c.args.image.items c.args.journal.items in
    let o = c.taken.result in
    let answers = c.taken.ensures.answers in
    let law = c.journals_of_bytes_grow_by_the_need.ensures in
    let together = c.bytes_are_changed_together.ensures in
    record {
      answers = answers;
      history = keeps c.steps_leave_histories.ensures step handed o answers;
      equation = keeps_equations c.changed_bytes_are_equations.ensures together.equations step handed o answers;
      growth = keeps_needs law.complete law.kept together.growth step handed o answers;
      sent = c.taken.ensures.sent;
      failed = c.taken.ensures.failed;
      kept = c.taken.ensures.kept;
      status = c.taken.ensures.status;
    }
