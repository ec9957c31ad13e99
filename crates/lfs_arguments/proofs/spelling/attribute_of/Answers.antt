use Rattle.std.proofs.Common.{inr}
use Rattle.lfs_arguments.proofs.Handed.{handed_on}
use Rattle.lfs_arguments.proofs.spelling.attribute_of.Goals as goal

pub returns-in_err-kind-clause-unsaid : goal.returns-in_err-kind-clause-unsaid
returns-in_err-kind-clause-unsaid c =
    let on = c.from_residual-in_err-kind in
    handed_on on.result c.in_err-kind.field-0.0 _ on.ensures.1
    (λ is. inr (λ rule named said. c.in_err-kind.ensures.unsaid is rule named said))
