use Rattle.lfs_lower.proofs.LoweredThrough.{lowered_next, lowered_none}
use Rattle.lfs_lower.proofs.lowering_all.lower_all.Goals as goal

pub loop-number-init : goal.loop-number-init
loop-number-init c = lowered_none c.args.image.now.disk c.size-fits_the_limits.ensures.disk

pub loop-number-preserved : goal.loop-number-preserved
loop-number-preserved c =
    lowered_next c.args.image.now.disk c.loop-number.image.disk c.lower_block.new.image.disk c.loop-number.number c.loop-number.invariant
    c.in_ok-lower_block.ensures
