use Rattle.std.proofs.Common.{◌≡◌, drop}
use Rattle.lfs_salvage.specs.Losses.{losses_from}
use Rattle.lfs_salvage.proofs.losses.has_lost_pair.Given as goal

-- what is left decides
abbrev pub invariant-each : goal.invariant-each
invariant-each l = losses_from l.areas l.uses l.calls l.call (drop l.call l.found) ≡ losses_from l.areas l.uses l.calls 0 l.found
