-- One command more is carried out behind the others; where it is refused they are taken back.
use Rattle.std.proofs.Common.{map, take, sym, subst, ◌∙◌, arith}
use Rattle.lfs_command.specs.AskedFor.{asked_for}
use Rattle.lfs_history.specs.History.{IsMounted}
use Rattle.lfs_session.proofs.JoiningLemmas.{Back, Join, behind_joined, joined_next, may_take_back, mounts_on, refused_next, still_joined}
use Rattle.lfs_session.proofs.JoiningLemmas.{taken_back_is}
use Rattle.lfs_session.proofs.joining.joined.Goals as goal

pub returns-in-Err-clause-unchanged : goal.returns-in-Err-clause-unchanged
returns-in-Err-clause-unchanged c =
    let law : Join = record {
      two = c.composed_patches_apply.ensures.two;
      one = c.commands_are_made_together.ensures.one_by_one;
      more = c.joints_go_on.ensures;
    } in
    let back : Back = record { agrees = c.applied_patches_revert.ensures.agrees; back = c.applied_patches_revert.ensures.back } in
    let d = c.args.image.now.disk in
    let asked = map asked_for (take c.loop-at.at c.args.commands.now) in
    c.take_back.ensures.disk
    ∙ taken_back_is law back d asked c.carry_on.new.joint c.carry_on.new.image.disk c.requires.disk
    (still_joined d asked c.loop-at.joint c.carry_on.new.joint c.loop-at.image.disk c.carry_on.new.image.disk c.in-Err.ensures.joint
    c.in-Err.ensures.image c.loop-at.invariant.joined)

pub returns-in-Err-clause-refused : goal.returns-in-Err-clause-refused
returns-in-Err-clause-refused c =
    let law : Join = record {
      two = c.composed_patches_apply.ensures.two;
      one = c.commands_are_made_together.ensures.one_by_one;
      more = c.joints_go_on.ensures;
    } in
    refused_next law c.args.image.now.disk c.args.commands.now c.loop-at.at _ c.loop-at.joint c.loop-at.image.disk c.in-Err.refusal
    c.requires.disk c.loop-at-test.true c.loop-at.invariant.joined c.in-Err.ensures.refused

pub carry_on-requires-clause-behind : goal.carry_on-requires-clause-behind
carry_on-requires-clause-behind c =
    let law : Join = record {
      two = c.composed_patches_apply.ensures.two;
      one = c.commands_are_made_together.ensures.one_by_one;
      more = c.joints_go_on.ensures;
    } in
    behind_joined law c.args.image.now.disk (map asked_for (take c.loop-at.at c.args.commands.now)) c.loop-at.joint c.loop-at.image.disk
    c.requires.disk c.loop-at.invariant.joined

pub take_back-requires-clause-agrees : goal.take_back-requires-clause-agrees
take_back-requires-clause-agrees c =
    let law : Join = record {
      two = c.composed_patches_apply.ensures.two;
      one = c.commands_are_made_together.ensures.one_by_one;
      more = c.joints_go_on.ensures;
    } in
    let back : Back = record { agrees = c.applied_patches_revert.ensures.agrees; back = c.applied_patches_revert.ensures.back } in
    let d = c.args.image.now.disk in
    let asked = map asked_for (take c.loop-at.at c.args.commands.now) in
    may_take_back law back d asked c.carry_on.new.joint c.carry_on.new.image.disk c.requires.disk
    (still_joined d asked c.loop-at.joint c.carry_on.new.joint c.loop-at.image.disk c.carry_on.new.image.disk c.in-Err.ensures.joint
    c.in-Err.ensures.image c.loop-at.invariant.joined)

pub returns-in-Err-clause-mounts : goal.returns-in-Err-clause-mounts
returns-in-Err-clause-mounts c = subst IsMounted (sym (returns-in-Err-clause-unchanged c)) c.requires.mounts

pub loop-at-preserved : goal.loop-at-preserved
loop-at-preserved c =
    let law : Join = record {
      two = c.composed_patches_apply.ensures.two;
      one = c.commands_are_made_together.ensures.one_by_one;
      more = c.joints_go_on.ensures;
    } in
    let follow = c.cuts_follow.ensures in
    let on = c.in_default.ensures.carried in
    record {
      joined = joined_next law c.args.image.now.disk c.args.commands.now c.loop-at.at _ c.loop-at.joint c.carry_on.new.joint
          c.loop-at.image.disk c.carry_on.new.image.disk c.requires.disk c.loop-at-test.true c.loop-at.invariant.joined on;
      mounts = mounts_on (record { cut = follow.cut; clean = follow.clean }) c.loop-at.image.disk c.carry_on.new.image.disk c.loop-at.joint
          c.carry_on.new.joint _ on;
      known = c.carry_on.ensures.known;
      most = omega arith;
    }
