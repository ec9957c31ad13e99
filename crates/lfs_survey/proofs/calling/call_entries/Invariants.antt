use Rattle.std.proofs.Common.{◌≡◌, ◌++◌, take}
use Rattle.lfs_survey.specs.Calls.{entries_call}
use Rattle.lfs_survey.proofs.calling.call_entries.Given as goal

abbrev pub invariant-each : goal.invariant-each
invariant-each l = l.calls.items ≡ l.fn.calls.items ++ entries_call l.from 0 (take l.index l.entries)
