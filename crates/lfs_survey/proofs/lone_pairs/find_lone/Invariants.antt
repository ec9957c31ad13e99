use Rattle.lfs_survey.proofs.LoneLemmas.{IsFinding}
use Rattle.lfs_survey.proofs.lone_pairs.find_lone.Given as goal

abbrev pub invariant-loop-block : goal.invariant-loop-block
invariant-loop-block g l = IsFinding (g.B.Blocks.disk l.blocks) l.looked l.fn.named l.named l.pairs.items l.block
