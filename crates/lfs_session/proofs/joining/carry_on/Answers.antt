-- The patch of the command goes behind those before it.
use Rattle.std.proofs.Common.{◌≤◌, ℕ, ap, subst, ◌∙◌}
use Rattle.lfs_block.specs.Patch.{applied}
use Rattle.lfs_session.proofs.JoiningLemmas.{may_join}
use Rattle.lfs_session.proofs.joining.carry_on.Goals as goal

pub join-requires : goal.join-requires
join-requires c =
    let plans = c.in_ok-patch.ensures.planned in
    may_join c.composed_patches_apply.ensures.two c.args.joint.now c.args.image.now.disk c.in_ok-patch.field-0.patch c.requires.behind
    plans.patch plans.stands

pub apply-requires-clause-room : goal.apply-requires-clause-room
apply-requires-clause-room c =
    subst (λ (n : ℕ). n ≤ c.reserve.new.self.room) c.after.ensures.value (c.reserve.ensures.done_is c.if-not-reserve.false)

pub returns-clause-carried : goal.returns-clause-carried
returns-clause-carried c = record {
  change = c.in_ok-patch.field-0.patch;
  plans = c.in_ok-patch.ensures.planned;
  joint = c.in_ok-join.ensures.done;
  image = c.apply.ensures.applied ∙ ap (applied c.in_ok-patch.field-0.patch) c.reserve.ensures.disk;
}
