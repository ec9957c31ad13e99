-- The image is read as it is, and the state before later commits taken for it only if the step may take one.
use Rattle.std.proofs.Common.{Bool, subst}
use Rattle.lfs_report.specs.Stop.{stopped_by}
use Rattle.lfs_serve.specs.Program.{EndsStep, as_it_is}
use Rattle.lfs_serve.proofs.stepping.stepped.Goals as goal

pub returns-clause-ended : goal.returns-clause-ended
returns-clause-ended g c =
    subst (λ (older : Bool). EndsStep c.args.step (as_it_is older) c.args.request.now.size c.args.request.now.image.now
    (g.H.Known.known c.args.host.now) (g.H.Known.known c.stepped_in.new.host) (stopped_by c.stepped_in.result))
    c.older_for-takes_older.ensures c.stepped_in.ensures.ended
