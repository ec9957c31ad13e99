use Rattle.std.proofs.Common.{◌≡◌, ◌++◌, map, take}
use Rattle.lfs_tag.specs.Writing.{items}
use Rattle.lfs_pair.specs.Spelling.{attribute_item}
use Rattle.lfs_pair.proofs.edits.push_attributes.Given as goal

abbrev pub invariant-loop-attribute : goal.invariant-loop-attribute
invariant-loop-attribute l = items l.edits.items ≡ items l.initial.edits.items
    ++ map (attribute_item l.id) (take l.attribute-index l.attributes)
