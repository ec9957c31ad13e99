-- Attributes that rise are small enough to be summed.
use Rattle.std.proofs.Common.{arith}
use Rattle.lfs_meta.proofs.FitsLemmas.{attributes_weight-small}
use Rattle.lfs_meta.proofs.weighing.attributes_weight.Goals as goal

pub tags_len-requires : goal.tags_len-requires
tags_len-requires c = omega (arith, attributes_weight-small c.args.attributes.now c.requires)

pub returns-clause-small : goal.returns-clause-small
returns-clause-small c = omega (arith, c.tags_len.ensures, attributes_weight-small c.args.attributes.now c.requires)
