use Rattle.std.proofs.Common.{◌≡◌, fold, take}
use Rattle.lfs_listing.specs.Using.{give}
use Rattle.lfs_listing.proofs.using.give_each.Given as goal

-- the blocks so far are given
abbrev pub invariant-loop-block : goal.invariant-loop-block
invariant-loop-block l = l.users ≡ fold (give l.number) l.fn.users (take l.block-index l.blocks)
