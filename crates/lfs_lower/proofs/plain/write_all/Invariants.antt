-- The edits so far write the tags so far.
use Rattle.std.proofs.Common.{◌≡◌, ◌≤◌, ◌++◌, length, take}
use Rattle.lfs_tag.specs.Writing.{items}
use Rattle.lfs_lower.proofs.plain.write_all.Given as goal

abbrev pub invariant-each : goal.invariant-each
invariant-each l = record { is : l.fn.tags ≡ items (take l.index l.edits) ++ l.tag-iterator; most : l.index ≤ length l.edits }
