-- The image's files aren't taken up, or the change is taken on them.
use Rattle.std.proofs.Common.{inl, inr, false}
use Rattle.std.proofs.lemmas.Result.{err_from_is_err_and}
use Rattle.lfs_host.specs.Scene.{Scene}
use Rattle.lfs_report.specs.Stop.{stopped_by}
use Rattle.lfs_step.specs.declared.step.Step.TheVariants.{Tree}
use Rattle.lfs_serve.specs.Program.{as_it_is}
use Rattle.lfs_open.proofs.StopLemmas.{stopped_at}
use Rattle.lfs_serve.proofs.StepLemmas.{step_from}
use Rattle.lfs_serve.proofs.tree_operations.change_taken.Goals as goal

pub change_of_handed-requires-clause-kind : goal.change_of_handed-requires-clause-kind
change_of_handed-requires-clause-kind g c = c.in_ok-handed.ensures.kind

pub change_of_handed-requires-clause-range : goal.change_of_handed-requires-clause-range
change_of_handed-requires-clause-range g c = c.requires.range

pub change_of_handed-requires-clause-keep : goal.change_of_handed-requires-clause-keep
change_of_handed-requires-clause-keep g c = c.requires.keep

pub returns-in_err-handed-clause-ended : goal.returns-in_err-handed-clause-ended
returns-in_err-handed-clause-ended g c =
    let fault = c.in_err-handed.field-0.0 in
    let p = err_from_is_err_and c.from_residual.result c.from_residual.ensures.1 in
    let kept = c.taken_up.ensures.kept.0 in
    inr ((kept.0, kept.2), (fault, stopped_at c.from_residual.result fault p.0 p.1 p.2, c.in_err-handed.ensures.refused))

pub returns-clause-ended : goal.returns-clause-ended
returns-clause-ended g c =
    let old : Scene = g.H.Known.known c.args.host.now in
    let mid : Scene = g.H.Known.known c.taken_up.new.host in
    let new : Scene = g.H.Known.known c.change_of_handed.new.host in
    let request = c.args.request.now in
    let kept = c.taken_up.ensures.kept.0 in
    inl (
    step_from (Tree c.args.change c.args.keep) (as_it_is false) request.size request.image.now mid old new
    (stopped_by c.change_of_handed.result) kept.0 kept.2 c.change_of_handed.ensures.ended
    )
