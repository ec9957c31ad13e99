-- One block after another.
use Rattle.lfs_survey.proofs.LoneLemmas.{finding_more}
use Rattle.lfs_survey.proofs.lone_pairs.find_lone.Goals as goal

pub loop-block-preserved : goal.loop-block-preserved
loop-block-preserved g c =
    finding_more (g.B.Blocks.disk c.args.blocks.now) c.args.looked.now c.args.named.now c.loop-block.named c.add_lone.new.named
    c.loop-block.pairs.items c.add_lone.new.pairs.items c.loop-block.block c.loop-block.invariant c.in_ok-add_lone.ensures.pairs
    c.in_ok-add_lone.ensures.named
