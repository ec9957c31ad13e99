-- The line of the limits stands in front of what differs between the trees.
use Rattle.std.proofs.Common.{List, ap, subst, ◌∙◌, ℕ}
use Rattle.std.proofs.lemmas.Result.{IfOk-weaker}
use Rattle.std.specs.Result.{result_err}
use Rattle.lfs_listing.specs.Difference.{is_some_text}
use Rattle.lfs_listing.specs.Unsent.{SendsListing}
use Rattle.lfs_listing.proofs.BufferLemmas.{under_way}
use Rattle.lfs_listing.proofs.UnsentLemmas.{refused}
use Rattle.lfs_step.proofs.ComparingLemmas.{with_limits}
use Rattle.lfs_step.proofs.comparing.send_image_difference.Goals as goal

pub returns-in_err-line-clause-sent : goal.returns-in_err-line-clause-sent
returns-in_err-line-clause-sent g c =
    refused c.from_residual.result _ _ _ _ _ c.from_residual.ensures.1 (under_way (g.S.Sink.sent c.args.out.now) _)

pub returns-clause-sent : goal.returns-clause-sent
returns-clause-sent g c =
    let old = g.S.Sink.sent c.args.out.now in
    let new = g.S.Sink.sent c.send_difference.new.out in
    subst (λ (text : List ℕ). SendsListing (result_err c.send_difference.result) old new text)
    (with_limits c.args.form c.args.first.now.disk.now.disk c.args.second.now.disk.now.disk c.args.first.now.mounted.now
    c.args.second.now.mounted.now c.limits-limits.result c.limits.result c.in_ok-line.line.items c.limits-limits.ensures c.limits.ensures
    c.in_ok-line.ensures)
    c.send_difference.ensures.sent

pub returns-clause-differs : goal.returns-clause-differs
returns-clause-differs g c =
    IfOk-weaker c.send_difference.result _ _
    (λ differs is. is ∙ ap is_some_text (with_limits c.args.form c.args.first.now.disk.now.disk c.args.second.now.disk.now.disk
    c.args.first.now.mounted.now c.args.second.now.mounted.now c.limits-limits.result c.limits.result c.in_ok-line.line.items
    c.limits-limits.ensures c.limits.ensures c.in_ok-line.ensures))
    c.send_difference.ensures.differs
