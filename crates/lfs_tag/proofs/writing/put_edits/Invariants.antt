-- What is left to write decides the whole.
use Rattle.std.proofs.Common.{drop}
use Rattle.lfs_tag.specs.Writing.{items}
use Rattle.lfs_tag.proofs.Puts.{EditsLoop}
use Rattle.lfs_tag.proofs.writing.put_edits.Given as goal

abbrev pub invariant-loop-edit : goal.invariant-loop-edit
invariant-loop-edit l = EditsLoop l.at l.prev (items l.edits) l.initial.block l.place l.last (items (drop l.edit-index l.edits)) l.block
