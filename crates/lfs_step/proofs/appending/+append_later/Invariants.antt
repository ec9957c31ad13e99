use Rattle.std.proofs.Common.{◌-◌, length}
use Rattle.lfs_step.proofs.appending.+append_later.Given as goal

-- fewer changes are left
abbrev pub decreases-append_later : goal.decreases-append_later
decreases-append_later l = length l.course.now.patches.now - l.at
