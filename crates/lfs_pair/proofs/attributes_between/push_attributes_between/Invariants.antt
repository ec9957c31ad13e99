use Rattle.std.proofs.Common.{◌≡◌, ◌++◌, drop}
use Rattle.lfs_tag.specs.Writing.{items}
use Rattle.lfs_pair.specs.Difference.{attributes_between}
use Rattle.lfs_pair.proofs.attributes_between.push_attributes_between.Given as goal

abbrev pub invariant-loop-attribute : goal.invariant-loop-attribute
invariant-loop-attribute l =
    items l.edits.items ++ attributes_between l.forced l.id (drop l.attribute-index l.old) l.left
    ≡ items l.initial.edits.items ++ attributes_between l.forced l.id l.old l.new
