-- The attributes so far are copied, and each of them fits.
use Rattle.std.proofs.Common.{◌≡◌, take}
use Rattle.std.specs.Prelude.{All}
use Rattle.lfs_meta.specs.Fits.{AttributeFits}
use Rattle.lfs_meta.proofs.attribute_copies.copied_attributes.Given as goal

abbrev pub invariant-loop-attribute : goal.invariant-loop-attribute
invariant-loop-attribute l = record { same : l.copy.items ≡ take l.attribute-index l.attributes; fit : All AttributeFits l.copy.items }
