use Rattle.std.proofs.Common.{◌≡◌, map, take}
use Rattle.lfs_listing.specs.Below.{names}
use Rattle.lfs_sync.proofs.making.path_of.Given as goal

-- the names so far
abbrev pub invariant-each : goal.invariant-each
invariant-each l = map (λ n. n.items) l.owned.items ≡ names (take l.name-index l.path)
