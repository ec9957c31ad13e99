use Rattle.lfs_settle.proofs.SettledStays.{settled_stays}
use Rattle.lfs_settle.proofs.laws.settled_stays.Goals as goal

pub returns : goal.returns
returns c = settled_stays c.same_readings_hold_the_same.ensures.pairs c.same_readings_hold_the_same.ensures.same
