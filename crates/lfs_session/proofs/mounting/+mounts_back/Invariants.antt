use Rattle.std.proofs.Common.{length}
use Rattle.lfs_session.proofs.mounting.+mounts_back.Given as goal

-- fewer changes are left
abbrev pub decreases-mounts_back : goal.decreases-mounts_back
decreases-mounts_back l = length l.patches.now
