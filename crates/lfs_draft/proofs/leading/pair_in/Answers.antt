use Rattle.std.proofs.Common.{Some, ap, ◌∙◌}
use Rattle.std.specs.Option.{option_map}
use Rattle.lfs_fs.specs.Directory.{Part}
use Rattle.lfs_draft.proofs.leading.pair_in.Goals as goal

pub returns-in_err-part : goal.returns-in_err-part
returns-in_err-part c = c.from_residual.ensures ∙ ap (option_map (λ (p : Part). p.pair)) c.in_err-part.ensures

pub returns : goal.returns
returns c = ap (λ (p : Part). Some p.pair) c.part.view_is ∙ ap (option_map (λ (p : Part). p.pair)) c.in_ok-part.ensures
