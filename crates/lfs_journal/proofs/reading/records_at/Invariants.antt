-- What is left decides the whole.
use Rattle.std.proofs.Common.{◌≡◌, ◌-◌}
use Rattle.lfs_journal.specs.Reading.{changes_at}
use Rattle.lfs_journal.proofs.Loops.{with_front}
use Rattle.lfs_journal.proofs.reading.records_at.Given as goal

abbrev pub invariant-loop : goal.invariant-loop
invariant-loop l =
    with_front l.records.items (changes_at l.size l.counts.before l.counts.after (l.many - l.counter) l.least l.rest)
    ≡ changes_at l.size l.counts.before l.counts.after l.many 0 l.bytes
