use Rattle.lfs_step.proofs.appending.+append_changes.Given as goal

-- fewer changes are left to be taken back
abbrev pub decreases-append_changes : goal.decreases-append_changes
decreases-append_changes l = l.at
