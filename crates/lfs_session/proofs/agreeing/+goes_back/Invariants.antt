use Rattle.std.proofs.Common.{length}
use Rattle.lfs_session.proofs.agreeing.+goes_back.Given as goal

-- fewer changes are left
abbrev pub decreases-goes_back : goal.decreases-goes_back
decreases-goes_back l = length l.patches.now
