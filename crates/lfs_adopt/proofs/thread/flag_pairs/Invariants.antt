-- The flags of the pairs so far are set.
use Rattle.std.specs.Prelude.{length, take}
use Rattle.lfs_adopt.specs.Rewritten.{AreFlagged}
use Rattle.lfs_adopt.proofs.thread.flag_pairs.Given as goal

abbrev pub invariant-loop-pair : goal.invariant-loop-pair
invariant-loop-pair l = AreFlagged (length l.fn.flags) (take l.pair-index l.fn.pairs) l.flags
