-- The flags of one pair more are set.
use Rattle.lfs_adopt.proofs.Flags.{first_flag, flags_begin, next_flags, second_flag}
use Rattle.lfs_adopt.proofs.thread.flag_pairs.Goals as goal

pub loop-pair-init : goal.loop-pair-init
loop-pair-init c = flags_begin c.args.flags.now c.requires.none

pub bounds-flags-pair : goal.bounds-flags-pair
bounds-flags-pair c =
    first_flag _ c.loop-pair.flags c.args.pairs.now c.loop-pair.pair-index (0, 0) c.loop-pair-test.true c.requires.within
    c.loop-pair.invariant

pub bounds-flags-pair-in-loop-pair : goal.bounds-flags-pair-in-loop-pair
bounds-flags-pair-in-loop-pair c =
    second_flag _ c.loop-pair.flags c.args.pairs.now c.loop-pair.pair-index (0, 0) c.loop-pair-test.true c.requires.within
    c.loop-pair.invariant

pub loop-pair-preserved : goal.loop-pair-preserved
loop-pair-preserved c =
    next_flags _ c.loop-pair.flags c.args.pairs.now c.loop-pair.pair-index (0, 0) c.loop-pair-test.true c.requires.within
    c.loop-pair.invariant
