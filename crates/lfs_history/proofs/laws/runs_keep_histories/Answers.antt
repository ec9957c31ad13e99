use Rattle.lfs_history.proofs.RunLemmas.{runs_keep}
use Rattle.lfs_history.proofs.laws.runs_keep_histories.Goals as goal

pub returns : goal.returns
returns c =
    let made = c.applied_patches_change_their_blocks.ensures in
    let back = c.applied_patches_revert.ensures in
    let again = c.reverted_patches_apply_again.ensures in
    let follow = c.cuts_follow.ensures in
    runs_keep
    (record { disk = again.disk; agrees = again.agrees; again = again.again })
    (record { disk = made.disk; agrees = back.agrees; back = back.back })
    (record { cut = follow.cut; clean = follow.clean }) c.composed_patches_apply.ensures.all
