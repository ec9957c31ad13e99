-- All bytes went out.
use Rattle.std.proofs.Common.{ℕ, List, ◌++◌, ap, sym, ◌∙◌}
use Rattle.std.proofs.Math.Seq.{take-length}
use Rattle.lfs_sink.proofs.memory_sink.MemorySinkSink.write.Goals as goal

pub returns-in-Ok-clause-sent : goal.returns-in-Ok-clause-sent
returns-in-Ok-clause-sent c =
    c.in-Ok.ensures.items ∙ ap (λ (xs : List ℕ). c.args.self.now.bytes.items ++ xs) (sym (take-length c.args.bytes.now))
