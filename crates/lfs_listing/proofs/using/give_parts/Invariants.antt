use Rattle.std.proofs.Common.{◌≡◌, flat_map, fold, take}
use Rattle.lfs_listing.specs.BlockMap.{blocks_of_part}
use Rattle.lfs_listing.specs.Using.{give}
use Rattle.lfs_listing.proofs.using.give_parts.Given as goal

-- those of the parts so far are given
abbrev pub invariant-each : goal.invariant-each
invariant-each l = l.users ≡ fold (give l.number) l.fn.users (flat_map blocks_of_part (take l.part-index l.parts))
