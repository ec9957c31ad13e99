use Rattle.std.proofs.Common.{ℕ, List, Option, Some, None, refl}
use Rattle.std.specs.Io.KnownBytes.{Keeps}
use Rattle.lfs_step.proofs.running.taken.Goals as goal

keeps_same : (sent : Option (List ℕ)) → Keeps sent sent
keeps_same None = tt
keeps_same (Some sent) = refl

pub returns-in-Tree-clause-sent : goal.returns-in-Tree-clause-sent
returns-in-Tree-clause-sent g c = rw c.in-Tree.is (keeps_same (g.S.Sink.sent c.args.out.now))
