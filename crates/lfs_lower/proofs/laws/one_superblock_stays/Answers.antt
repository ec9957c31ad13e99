use Rattle.lfs_lower.proofs.StaysOne.{one_superblock_stays}
use Rattle.lfs_lower.proofs.laws.one_superblock_stays.Goals as goal

pub returns : goal.returns
returns c = one_superblock_stays c.same_readings_hold_the_same.ensures.pairs c.same_readings_hold_the_same.ensures.same
