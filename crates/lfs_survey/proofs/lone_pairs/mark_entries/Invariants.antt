use Rattle.std.proofs.Common.{◌≡◌, take}
use Rattle.lfs_survey.specs.Lone.{entries_pairs, marked_by}
use Rattle.lfs_survey.proofs.lone_pairs.mark_entries.Given as goal

abbrev pub invariant-each : goal.invariant-each
invariant-each l = l.table ≡ marked_by l.fn.table (entries_pairs (take l.entry-index l.entries))
