use Rattle.std.proofs.Common.{ap, arith}
use Rattle.lfs_meta.specs.Weighing.{attributes_weight}
use Rattle.lfs_fs.specs.Weight.{weight}
use Rattle.lfs_cut.proofs.weighing.weight.Goals as goal

pub returns-clause-value : goal.returns-clause-value
returns-clause-value c =
    let all = ap weight c.entry.view_is in
    let attributes = ap attributes_weight c.deref.ensures.value in
    omega (arith, c.len.ensures, c.entry.inside.name.ok, c.body_weight.ensures.value, c.attributes_weight.ensures.value, attributes, all)
