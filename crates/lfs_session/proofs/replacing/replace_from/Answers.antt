-- What stood at the place is replaced, and what stood behind it is cut off.
use Rattle.std.proofs.Common.{◌<◌, length, ◌∙◌, arith}
use Rattle.std.proofs.lemmas.Result.{IfOk-from_err}
use Rattle.std.proofs.lemmas.List.{take_more_set}
use Rattle.lfs_session.proofs.replacing.replace_from.Goals as goal

pub returns-then-at-len-clause-done : goal.returns-then-at-len-clause-done
returns-then-at-len-clause-done c =
    let within : c.args.at < length c.args.patches.now.items = omega arith in
    c.truncate.ensures.items ∙ take_more_set c.args.patches.now.items c.args.at c.args.patch within

pub returns-in_err-push-clause-done : goal.returns-in_err-push-clause-done
returns-in_err-push-clause-done c = IfOk-from_err c.from_residual.result _ c.from_residual.ensures.0
