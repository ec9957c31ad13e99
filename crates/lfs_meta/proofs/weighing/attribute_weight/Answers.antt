use Rattle.std.proofs.Common.{ℕ, List, length, ap, arith}
use Rattle.lfs_meta.proofs.weighing.attribute_weight.Goals as goal

pub returns : goal.returns
returns c = omega (arith, c.len.ensures, ap (λ (a : ℕ × List ℕ). length a.1) c.attribute.view_is)
