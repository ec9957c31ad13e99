-- The line of the limits stands in front of what differs between the trees.
use Rattle.std.proofs.Common.{ap, ◌∙◌}
use Rattle.std.proofs.lemmas.Result.{IfOk-weaker}
use Rattle.lfs_json.specs.declared.form.Form.TheVariants.{Text}
use Rattle.lfs_listing.specs.Difference.{is_some_text}
use Rattle.lfs_step.proofs.ComparingLemmas.{with_limits}
use Rattle.lfs_step.proofs.comparing.have_image_difference.Goals as goal

pub returns : goal.returns
returns c =
    IfOk-weaker c.have_difference.result _ _
    (λ differs is. is ∙ ap is_some_text (with_limits Text c.args.first.now.disk.now.disk c.args.second.now.disk.now.disk
    c.args.first.now.mounted.now c.args.second.now.mounted.now c.limits-limits.result c.limits.result c.in_ok-line.line.items c.limits-limits.ensures
    c.limits.ensures c.in_ok-line.ensures))
    c.have_difference.ensures
