use Rattle.std.proofs.Common.{◌≡◌, ◌++◌, take}
use Rattle.std.specs.Prelude.{All}
use Rattle.lfs_tag.specs.Writing.{items}
use Rattle.lfs_meta.specs.Fits.{EntryFits}
use Rattle.lfs_pair.specs.Spelling.{entries_tags}
use Rattle.lfs_pair.proofs.edits.push_entries.Given as goal

abbrev pub invariant-loop-id : goal.invariant-loop-id
invariant-loop-id l = record {
  pushed : items l.edits.items ≡ items l.initial.edits.items ++ entries_tags 0 (take l.id l.entries);
  fits : All EntryFits (take l.id l.entries);
}
