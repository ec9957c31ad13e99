use Rattle.std.proofs.Common.{◌≡◌, ◌++◌, take, flat_map}
use Rattle.lfs_listing.specs.Listing.{attribute_line}
use Rattle.lfs_listing.proofs.marking.append_marked_attributes.Given as goal

abbrev pub invariant-loop-attribute : goal.invariant-loop-attribute
invariant-loop-attribute l = l.text.items ≡ l.initial.text.items ++ flat_map (λ a. l.mark ++ attribute_line a) (take l.attribute-index l.attributes)
