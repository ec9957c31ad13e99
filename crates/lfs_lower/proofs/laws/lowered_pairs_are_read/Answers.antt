use Rattle.lfs_lower.proofs.LoweredPairs.{lowered_part}
use Rattle.lfs_lower.proofs.laws.lowered_pairs_are_read.Goals as goal

pub returns : goal.returns
returns c =
    λ d e pair disk all first second. lowered_part c.lowered_blocks_are_read.ensures.lives d e pair disk first second
    (all.lowered pair.0 first) (all.lowered pair.1 second)
