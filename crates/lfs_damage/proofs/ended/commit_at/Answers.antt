use Rattle.std.proofs.Common.{sym, ap, ◌∙◌, option_map}
use Rattle.std.specs.Prelude.{option_and_then}
use Rattle.lfs_tag.specs.Found.{commit_found}
use Rattle.lfs_damage.proofs.ClosingSteps.{commit_is, seen_by}
use Rattle.lfs_damage.proofs.ended.commit_at.Goals as goal

pub returns : goal.returns
returns c =
    c.closed.ensures
    ∙ ap (option_and_then seen_by) c.in_ok-closing.ensures
    ∙ sym (commit_is c.args.sum c.args.prev c.args.bytes.now)

pub returns-in_err-closing : goal.returns-in_err-closing
returns-in_err-closing c =
    ap (option_map commit_found) c.from_residual.ensures
    ∙ ap (option_and_then seen_by) c.in_err-closing.ensures
    ∙ sym (commit_is c.args.sum c.args.prev c.args.bytes.now)
