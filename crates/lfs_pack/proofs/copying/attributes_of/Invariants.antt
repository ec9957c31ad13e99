use Rattle.std.proofs.Common.{◌≡◌, map, take}
use Rattle.lfs_pack.specs.Packed.{attribute_of}
use Rattle.lfs_pack.proofs.copying.attributes_of.Given as goal

-- those so far
abbrev pub invariant-loop-attribute : goal.invariant-loop-attribute
invariant-loop-attribute l = map attribute_of l.copied.items ≡ take l.attribute-index l.attributes
