-- What is left decides the whole.
use Rattle.std.proofs.Common.{◌≡◌, ◌-◌}
use Rattle.lfs_journal.specs.HeadSeen.{head_seen}
use Rattle.lfs_journal.specs.Reading.{patches_at}
use Rattle.lfs_journal.proofs.Loops.{with_front}
use Rattle.lfs_journal.proofs.reading.patches_at.Given as goal

abbrev pub invariant-loop : goal.invariant-loop
invariant-loop l =
    with_front l.patches.items (patches_at (head_seen l.head) (l.many - l.counter) l.rest)
    ≡ patches_at (head_seen l.head) l.many l.bytes
