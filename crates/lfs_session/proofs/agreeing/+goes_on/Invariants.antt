use Rattle.std.proofs.Common.{length}
use Rattle.lfs_session.proofs.agreeing.+goes_on.Given as goal

-- fewer changes are left
abbrev pub decreases-goes_on : goal.decreases-goes_on
decreases-goes_on l = length l.patches.now
