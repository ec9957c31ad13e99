use Rattle.lfs_journal.proofs.JointLemmas.{TakeBack, composed-reverts, together-reverts}
use Rattle.lfs_journal.proofs.joint_laws.composed_patches_revert.Goals as goal

pub returns : goal.returns
returns c =
    let made = c.applied_patches_revert.ensures in
    let again = c.reverted_patches_apply_again.ensures in
    let law : TakeBack = record { agrees = made.agrees; back = made.back; disk = again.disk; stands = again.agrees; again = again.again } in
    let two = composed-reverts c.composed_patches_apply.ensures.two law in
    record { two = two; all = together-reverts law two }
