use Rattle.std.proofs.Common.{◌⊎◌, sym, subst, ◌∙◌}
use Rattle.lfs_host.specs.Scene.{Scene}
use Rattle.lfs_report.specs.Stop.{stopped_by}
use Rattle.lfs_serve.specs.Program.{EndsOperation, IsNotSpared, IsSpared, OperationLeavesRest}
use Rattle.lfs_serve.proofs.serving.served.Goals as goal

pub returns : goal.returns
returns g c =
    let request = c.args.request.now in
    let fault = stopped_by c.asked-end.result in
    let old : Scene = g.H.Known.known c.args.host.now in
    let told = sym (c.report_within.ensures.kept ∙ c.report_later.ensures.kept ∙ c.report_end-status.ensures.kept) in
    let ends = subst (λ (new : Scene).
    (IsSpared request old × EndsOperation request.operation request.takes_older request.size request.image.now old new fault)
    ⊎ IsNotSpared request old new fault) told c.asked-end.ensures.ended in
    let rest = subst (λ (new : Scene). OperationLeavesRest request.operation old new) told c.asked-end.ensures.rest in
    record { ended = record { fault = fault; ends = ends; status_is = c.report_end-status.ensures.status; rest = rest } }
