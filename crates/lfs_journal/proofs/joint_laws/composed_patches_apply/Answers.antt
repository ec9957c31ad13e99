use Rattle.lfs_journal.proofs.JointLemmas.{Make, composed-applies, together-applies}
use Rattle.lfs_journal.proofs.joint_laws.composed_patches_apply.Goals as goal

pub returns : goal.returns
returns c =
    let made = c.applied_patches_change_their_blocks.ensures in
    let law : Make = record { disk = made.disk; blocks = made.blocks; same = c.images_are_their_blocks.ensures } in
    record { two = composed-applies law; all = together-applies (composed-applies law) }
