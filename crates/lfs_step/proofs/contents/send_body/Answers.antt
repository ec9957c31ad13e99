-- Nothing goes out of a directory.
use Rattle.std.proofs.Common.{ℕ, List, Option, Some, None, refl}
use Rattle.std.specs.Io.KnownBytes.{Keeps}
use Rattle.lfs_step.proofs.contents.send_body.Goals as goal

-- what stays is kept
keeps_same : (sent : Option (List ℕ)) → Keeps sent sent
keeps_same None = tt
keeps_same (Some bytes) = refl

pub returns-in-Directory-clause-sent : goal.returns-in-Directory-clause-sent
returns-in-Directory-clause-sent g c = keeps_same (g.S.Sink.sent c.args.out.now)
