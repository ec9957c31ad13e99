use Rattle.lfs_sync.specs.Merging.{MergesTo, left}
use Rattle.lfs_listing.specs.Below.{names}
use Rattle.lfs_sync.proofs.syncing.merged.Given as goal

-- what is planned so far, and of what is left, is what is planned of all
abbrev pub invariant-rows : goal.invariant-rows
invariant-rows g l = MergesTo (g.B.Blocks.disk l.disk) (names l.at) l.rows l.merging l.held l.wanted

abbrev pub decreases-rows : goal.decreases-rows
decreases-rows g l = left l.merging l.held l.wanted
