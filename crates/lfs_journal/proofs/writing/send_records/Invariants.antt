use Rattle.std.proofs.Common.{◌≡◌, false, take}
use Rattle.std.specs.Io.KnownBytes.{Appends}
use Rattle.std.specs.List.{flat_map}
use Rattle.lfs_journal.specs.Book.{change_bytes}
use Rattle.lfs_journal.proofs.writing.send_records.Given as goal

abbrev pub invariant-loop-record : goal.invariant-loop-record
invariant-loop-record g l =
    Appends (g.S.Sink.sent l.initial.out) (g.S.Sink.sent l.out) (flat_map change_bytes (take l.record-index l.records))
    × (g.S.Sink.failed l.out ≡ false)
    × (g.S.Sink.kept l.out ≡ g.S.Sink.kept l.initial.out)
