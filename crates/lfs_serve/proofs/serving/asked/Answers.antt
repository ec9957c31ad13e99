-- The name of an image that is to be new is taken, or the operation is done.
use Rattle.std.proofs.Common.{subst, inl}
use Rattle.lfs_host.specs.Scene.{Scene}
use Rattle.lfs_report.specs.Stop.{stopped_by}
use Rattle.lfs_serve.specs.Program.{EndsOperation}
use Rattle.lfs_serve.proofs.serving.asked.Goals as goal

pub returns-clause-ended : goal.returns-clause-ended
returns-clause-ended g c =
    let request = c.args.request.now in
    let new : Scene = g.H.Known.known c.done.new.host in
    let ends = subst (λ (old : Scene). EndsOperation request.operation request.takes_older request.size request.image.now old new (stopped_by c.done.result))
    c.in_ok-spare.ensures.same c.done.ensures.ended in
    inl (c.in_ok-spare.ensures.missing, ends)
