use Rattle.std.proofs.Common.{◌≡◌, take}
use Rattle.lfs_journal.proofs.copying.all_copied.Given as goal

-- those so far are copied
abbrev pub invariant-loop-record : goal.invariant-loop-record
invariant-loop-record l = l.copies.items ≡ take l.record-index l.records
