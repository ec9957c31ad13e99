use Rattle.std.specs.Io.KnownBytes.{Keeps}
use Rattle.lfs_sink.proofs.writing.write_some.Given as goal

abbrev pub invariant-tries : goal.invariant-tries
invariant-tries g l = Keeps (g.W.Write.contents l.initial.writer) (g.W.Write.contents l.writer)
