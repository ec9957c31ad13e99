use Rattle.std.proofs.Common.{◌≡◌, ◌-◌, take}
use Rattle.lfs_tag.specs.Writing.{items, tags_len}
use Rattle.lfs_tag.proofs.writing.room_behind.Given as goal

abbrev pub invariant-loop-edit : goal.invariant-loop-edit
invariant-loop-edit l = l.left ≡ l.room - tags_len (items (take l.edit-index l.edits))
