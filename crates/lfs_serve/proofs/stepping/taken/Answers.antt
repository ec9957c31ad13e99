use Rattle.std.proofs.Common.{Some, refl, sym, ap, ◌∙◌}
use Rattle.lfs_serve.proofs.stepping.taken.Goals as goal

pub returns-in-None-clause-ran : goal.returns-in-None-clause-ran
returns-in-None-clause-ran g c = (c.ran-outcome.result, c.ran-outcome.ensures.answers, c.in-None.is, c.ran-outcome.ensures.sent, refl)

pub returns-after-adopts-clause-ran : goal.returns-after-adopts-clause-ran
returns-after-adopts-clause-ran g c =
    let is = c.in-Some.is ∙ ap Some (sym c.stop_of_run.ensures.fault) in
    (c.ran-outcome.result, c.ran-outcome.ensures.answers, is, c.ran-outcome.ensures.sent, tt)
