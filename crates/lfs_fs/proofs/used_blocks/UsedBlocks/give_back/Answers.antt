-- The next block is marked still.
use Rattle.std.proofs.Common.{refl}
use Rattle.lfs_fs.proofs.UsedLemmas.{marked_next}
use Rattle.lfs_fs.proofs.used_blocks.UsedBlocks.give_back.Goals as goal

pub give_one-requires : goal.give_one-requires
give_one-requires c =
    marked_next c.args.self.now c.each.self c.args.blocks.now c.each.block-index _ c.each-test.true refl c.requires c.each.invariant
