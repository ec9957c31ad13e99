use Rattle.std.proofs.Common.{◌≡◌, drop}
use Rattle.lfs_command.specs.PathMap.{below}
use Rattle.lfs_listing.specs.Below.{names}
use Rattle.lfs_listing.proofs.below.is_below.Given as goal

-- what is left of both decides
abbrev pub invariant-each : goal.invariant-each
invariant-each l = below (drop l.index (names l.at)) (drop l.index (names l.path)) ≡ below (names l.at) (names l.path)
