use Rattle.std.proofs.Common.{◌≡◌, take}
use Rattle.lfs_meta.specs.Weighing.{attributes_weight}
use Rattle.lfs_meta.proofs.weighing.tags_len.Given as goal

abbrev pub invariant-loop-attribute : goal.invariant-loop-attribute
invariant-loop-attribute l = l.sum ≡ attributes_weight (take l.attribute-index l.attributes)
