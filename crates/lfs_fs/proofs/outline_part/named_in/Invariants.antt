use Rattle.std.proofs.Common.{◌≡◌, drop}
use Rattle.std.specs.Prelude.{find}
use Rattle.lfs_fs.specs.Entry.{is_named}
use Rattle.lfs_fs.specs.Gathering.{part_entries}
use Rattle.lfs_fs.proofs.outline_part.named_in.Given as goal

-- what is named is in the parts that are left
abbrev pub invariant-loop-part : goal.invariant-loop-part
invariant-loop-part l = find (is_named l.name) (part_entries (drop l.part-index l.parts)) ≡ find (is_named l.name) (part_entries l.parts)
