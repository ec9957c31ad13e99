-- The image's files aren't at hand, or it is taken over.
use Rattle.std.proofs.Common.{refl, inl, inr}
use Rattle.std.proofs.lemmas.Result.{err_from_is_err_and}
use Rattle.lfs_exchange.specs.declared.step_kind.StepKind.TheVariants.{Adopts}
use Rattle.lfs_host.specs.Scene.{Scene}
use Rattle.lfs_report.specs.Stop.{stopped_by}
use Rattle.lfs_step.specs.declared.step.Step.TheVariants.{Adopt}
use Rattle.lfs_serve.specs.Program.{as_it_is}
use Rattle.lfs_open.proofs.StopLemmas.{stopped_at}
use Rattle.lfs_serve.proofs.StepLemmas.{step_from}
use Rattle.lfs_serve.proofs.plain_operations.adopted.Goals as goal

pub returns-in_err-handed-clause-ended : goal.returns-in_err-handed-clause-ended
returns-in_err-handed-clause-ended g c =
    let fault = c.in_err-handed.field-0.0 in
    let p = err_from_is_err_and c.from_residual.result c.from_residual.ensures.1 in
    let kept = c.taken_up.ensures.kept.0 in
    inr ((kept.0, kept.2), (fault, stopped_at c.from_residual.result fault p.0 p.1 p.2, inr (Adopts, refl, c.in_err-handed.ensures.refused)))

pub returns-clause-ended : goal.returns-clause-ended
returns-clause-ended g c =
    let old : Scene = g.H.Known.known c.args.host.now in
    let mid : Scene = g.H.Known.known c.taken_up.new.host in
    let new : Scene = g.H.Known.known c.stepped.new.host in
    let request = c.args.request.now in
    let kept = c.taken_up.ensures.kept.0 in
    let step = Adopt c.args.form c.args.replaces in
    inl (
      step,
      (refl, refl),
      step_from step (as_it_is request.takes_older) request.size request.image.now mid old new (stopped_by c.stepped.result) kept.0 kept.2
          c.stepped.ensures.ended,
    )
