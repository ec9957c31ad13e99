use Rattle.std.proofs.Common.{length}
use Rattle.std.specs.Io.KnownBytes.{Keeps, append_known}
use Rattle.lfs_sink.proofs.waiting.write_rest.Given as goal

abbrev pub invariant-rest : goal.invariant-rest
invariant-rest g l =
    Keeps (append_known (g.W.Write.contents l.initial.writer) l.initial.waiting.items)
    (append_known (g.W.Write.contents l.writer) l.waiting.items)

abbrev pub decreases-rest : goal.decreases-rest
decreases-rest g l = length l.waiting.items
