-- The attributes so far are set.
use Rattle.std.proofs.Common.{drop, map}
use Rattle.lfs_pack.specs.Packed.{attribute_of}
use Rattle.lfs_pack.proofs.AttributesInTurn.{AreBeingSet}
use Rattle.lfs_pack.proofs.rows.set_attributes.Given as goal

abbrev pub invariant-each : goal.invariant-each
invariant-each l =
    AreBeingSet l.text (map attribute_of l.attributes) (map attribute_of (drop l.attribute-index l.attributes)) l.fn.new l.new
