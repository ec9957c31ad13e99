-- The files of the image aren't taken up, or the steps are taken on them.
use Rattle.std.proofs.Common.{◌∙◌, map, refl, subst, inl, inr}
use Rattle.std.proofs.lemmas.Result.{err_from_is_err_and}
use Rattle.lfs_history.specs.Meaning.{step_of}
use Rattle.lfs_host.specs.Scene.{Scene}
use Rattle.lfs_exchange.specs.declared.step_kind.StepKind.{StepKind}
use Rattle.lfs_exchange.specs.Handing.{IsNotTakenUp}
use Rattle.lfs_report.specs.Stop.{stopped_by}
use Rattle.lfs_step.specs.declared.step.Step.TheVariants.{Change}
use Rattle.lfs_serve.proofs.BatchingLemmas.{same_kind}
use Rattle.lfs_open.proofs.StopLemmas.{stopped_at}
use Rattle.lfs_serve.proofs.StepLemmas.{step_at}
use Rattle.lfs_serve.proofs.batching.moves_taken.Goals as goal

pub stepped-requires-clause-kind : goal.stepped-requires-clause-kind
stepped-requires-clause-kind g c = c.in_ok-handed.ensures.kind ∙ c.kind_of_steps.ensures

pub stepped-requires-clause-range : goal.stepped-requires-clause-range
stepped-requires-clause-range g c = c.requires

pub stepped-requires-clause-target : goal.stepped-requires-clause-target
stepped-requires-clause-target g c = c.in_ok-handed.ensures.target

pub stepped-requires-clause-claimed : goal.stepped-requires-clause-claimed
stepped-requires-clause-claimed g c = c.in_ok-handed.ensures.claimed

pub stepped-requires-clause-handed : goal.stepped-requires-clause-handed
stepped-requires-clause-handed g c = c.in_ok-handed.ensures.handed

pub returns-in_err-handed-clause-ended : goal.returns-in_err-handed-clause-ended
returns-in_err-handed-clause-ended g c =
    let new : Scene = g.H.Known.known c.taken_up.new.host in
    let name = c.args.request.now.image.now in
    let steps = c.args.steps.now in
    let fault = c.in_err-handed.field-0.0 in
    let on = c.from_residual in
    let p = err_from_is_err_and on.result on.ensures.1 in
    let kept = c.taken_up.ensures.kept.0 in
    let not = subst (λ (kind : StepKind). IsNotTakenUp kind new name fault) (c.kind_of_steps.ensures ∙ same_kind steps) c.in_err-handed.ensures.refused in
    inr ((kept.0, kept.2), (fault, stopped_at on.result fault p.0 p.1 p.2, inr (map step_of steps, refl, not)))

pub returns-clause-ended : goal.returns-clause-ended
returns-clause-ended g c =
    let old : Scene = g.H.Known.known c.args.host.now in
    let mid : Scene = g.H.Known.known c.taken_up.new.host in
    let new : Scene = g.H.Known.known c.stepped.new.host in
    let request = c.args.request.now in
    let kept = c.taken_up.ensures.kept.0 in
    let fault = stopped_by c.stepped.result in
    let ends = step_at (Change c.args.steps) _ request.size request.image.now mid old new fault fault kept.0 kept.2
    refl c.stepped.ensures.ended in
    inl (c.args.steps, refl, ends)
