-- One block more is used.
use Rattle.std.proofs.Common.{false}
use Rattle.lfs_fs.proofs.UsedLemmas.{one_below}
use Rattle.lfs_fs.proofs.used_blocks.first_unused.Goals as goal

pub loop-block-preserved : goal.loop-block-preserved
loop-block-preserved c =
    one_below c.args.used.now c.loop-block.block false c.loop-block-test.true c.if-not-used-block.false c.loop-block.invariant
