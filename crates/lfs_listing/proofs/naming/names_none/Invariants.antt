use Rattle.std.proofs.Common.{◌≡◌, ◌<◌, ℕ, get_or}
use Rattle.std.specs.Prelude.{None}
use Rattle.lfs_block.specs.Change.{change_of}
use Rattle.lfs_listing.proofs.naming.names_none.Given as goal

-- none of the blocks so far
abbrev pub invariant-loop-block : goal.invariant-loop-block
invariant-loop-block l = (k : ℕ) → k < l.block-index → change_of (get_or l.blocks k 0) l.records ≡ None
