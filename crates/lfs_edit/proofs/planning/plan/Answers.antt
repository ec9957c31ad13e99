-- What is judged on the outline of a mount is carried out on one that is read again, which is the same.
use Rattle.std.proofs.Common.{subst, sym, ◌∙◌}
use Rattle.std.proofs.lemmas.Result.{IfOk-weaker, IfErr-weaker, err_from_is_err_and}
use Rattle.lfs_block.specs.Disk.{Disk}
use Rattle.lfs_fs.specs.Mounted.{IsMountOf, IsOutlineOf, MountedValue}
use Rattle.lfs_command.specs.AskedFor.{asked_for, named_command}
use Rattle.lfs_edit.specs.Carried.{IsHeldJudged}
use Rattle.lfs_edit.proofs.JudgedLemmas.{may_be_refused, refused_on}
use Rattle.lfs_edit.proofs.TableLemmas.{outline_sound}
use Rattle.lfs_edit.proofs.planning.plan.Goals as goal

outline_of_mount : (d : Disk) (m : MountedValue) → IsMountOf d m → IsOutlineOf d m.outline
outline_of_mount d m is = record { volume = is.volume; holds = is.holds; sound = is.sound; outline = is.outline }

pub judge-requires : goal.judge-requires
judge-requires c =
    outline_sound c.outlines_are_sound.ensures c.args.image.now.disk c.outline.result.now
    (subst (IsOutlineOf c.args.image.now.disk) (sym c.outline.ensures)
    (outline_of_mount c.args.image.now.disk c.args.mounted.now c.requires.mounted))

pub returns-in_err-judge-clause-refused : goal.returns-in_err-judge-clause-refused
returns-in_err-judge-clause-refused c =
    let p = err_from_is_err_and c.from_residual-in_err-judge.result c.from_residual-in_err-judge.ensures.1 in
    rw (p.1, p.2) (
    refused_on c.outlines_are_judged_alike.ensures.judged c.args.image.now.disk c.outline.result.now
    (subst (IsOutlineOf c.args.image.now.disk) (sym c.outline.ensures) (outline_of_mount c.args.image.now.disk c.args.mounted.now c.requires.mounted))
    (asked_for c.args.command.now) (named_command c.in_ok-command.command) c.in_ok-command.ensures.spelled c.in_err-judge.field-0.0
    c.in_err-judge.ensures.refused)

pub outline_of-requires : goal.outline_of-requires
outline_of-requires c = record {
  outline = (
    c.args.mounted.now.outline,
    outline_of_mount c.args.image.now.disk c.args.mounted.now c.requires.mounted,
  );
}

pub used_blocks-requires : goal.used_blocks-requires
used_blocks-requires c =
    outline_sound c.outlines_are_sound.ensures c.args.image.now.disk c.in_ok-outline.outline c.in_ok-outline.ensures.read

pub patch_judged-requires-clause-judged : goal.patch_judged-requires-clause-judged
patch_judged-requires-clause-judged c =
    let same = c.in_ok-outline.ensures.only c.args.mounted.now.outline (outline_of_mount c.args.image.now.disk
    c.args.mounted.now c.requires.mounted) in
    subst (IsHeldJudged c.args.image.now.disk (named_command c.in_ok-command.command)) (c.outline.ensures ∙ sym same) (record {
      outline = subst (IsOutlineOf c.args.image.now.disk) (sym c.outline.ensures)
          (outline_of_mount c.args.image.now.disk c.args.mounted.now c.requires.mounted);
      names = c.in_ok-command.ensures.spelled.0;
      unrefused = c.in_ok-judge.ensures.unrefused;
    })

pub returns-clause-planned : goal.returns-clause-planned
returns-clause-planned c =
    IfOk-weaker c.patch_judged.result _ _ (λ patch finished. finished.plans (asked_for c.args.command.now) c.in_ok-command.ensures.spelled)
    c.patch_judged.ensures.finished

pub returns-clause-refused : goal.returns-clause-refused
returns-clause-refused c =
    IfErr-weaker c.patch_judged.result _ _ (λ r refused. may_be_refused c.args.image.now.disk (named_command c.in_ok-command.command) r refused
    (asked_for c.args.command.now) c.in_ok-command.ensures.spelled) c.patch_judged.ensures.refused
