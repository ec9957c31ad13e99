-- What a reader gives, seen by what it reads (own).
use Rattle.std.specs.Prelude.{ℕ}
use Rattle.lfs_journal.specs.declared.reading.Head as code
use Rattle.lfs_journal.specs.declared.reading.Counts as code_counts
use Rattle.lfs_journal.specs.Reading.{Head}

-- what was read before the changes
abbrev pub head_seen : code.Head → Head
head_seen head = record { version = head.version; size = head.size; count = head.count; done = head.done; undone = head.undone }

-- the counts before a change and after it
abbrev pub counts_seen : code_counts.Counts → ℕ × ℕ
counts_seen counts = (counts.before, counts.after)
