use Rattle.std.proofs.Common.{◌≡◌, take}
use Rattle.lfs_meta.proofs.complete.attributes_of.Given as goal

abbrev pub invariant-loop-attribute : goal.invariant-loop-attribute
invariant-loop-attribute l = l.held.items ≡ take l.attribute-index l.attributes
