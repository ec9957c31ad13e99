-- The second patch is made in the image that the first one makes.
use Rattle.std.proofs.Common.{sym, subst}
use Rattle.lfs_block.specs.Patch.{AgreesOld, ChangeSet, IsGrowth}
use Rattle.lfs_journal.specs.Joined.{composed}
use Rattle.lfs_read_tests.proofs.joints.made_as_one.Goals as goal

pub lay-requires : goal.lay-requires
lay-requires c =
    let first : ChangeSet = c.args.first.now in
    let second : ChangeSet = c.args.second.now in
    let growth : IsGrowth first = subst IsGrowth c.in_ok-joint.ensures.same c.in_ok-joint.ensures.growth in
    let agrees = c.agrees_old.ensures.0 c.if-not-agrees_old.false in
    let next = c.agrees_old-2.ensures.0 c.if-not-agrees_old-2.false in
    let both = c.composed_patches_apply.ensures.two first second c.args.image.now.disk c.room.ensures.medium.disk growth
    c.records-named.ensures.growth agrees (subst (AgreesOld second) c.apply.ensures.applied next) in
    subst (λ (p : ChangeSet). IsGrowth (composed p second)) (sym c.in_ok-joint.ensures.same) both.growth
