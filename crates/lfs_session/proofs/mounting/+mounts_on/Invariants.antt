use Rattle.std.proofs.Common.{length}
use Rattle.lfs_session.proofs.mounting.+mounts_on.Given as goal

-- fewer changes are left
abbrev pub decreases-mounts_on : goal.decreases-mounts_on
decreases-mounts_on l = length l.patches.now
