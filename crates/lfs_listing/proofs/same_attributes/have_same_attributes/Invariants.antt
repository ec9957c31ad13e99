use Rattle.std.proofs.Common.{◌≡◌, ◌≤◌, drop, length}
use Rattle.lfs_listing.specs.Difference.{same_attributes}
use Rattle.lfs_listing.proofs.same_attributes.have_same_attributes.Given as goal

-- the attributes that are left decide
abbrev pub invariant-each : goal.invariant-each
invariant-each l = (same_attributes (drop l.index l.attributes) (drop l.index l.others) ≡ same_attributes l.attributes l.others)
    × (l.index ≤ length l.others)
