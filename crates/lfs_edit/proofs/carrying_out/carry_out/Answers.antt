-- A command that is asked for is the one that is judged and carried out.
use Rattle.std.proofs.lemmas.Result.{IfOk-weaker, IfErr-weaker, err_from_is_err_and}
use Rattle.lfs_command.specs.AskedFor.{asked_for, named_command}
use Rattle.lfs_edit.proofs.JudgedLemmas.{refused_on}
use Rattle.lfs_edit.proofs.TableLemmas.{outline_sound}
use Rattle.lfs_edit.proofs.carrying_out.carry_out.Goals as goal

pub judge-requires : goal.judge-requires
judge-requires c = outline_sound c.outlines_are_sound.ensures c.args.image.now.disk c.args.outline.now c.requires.outline

pub returns-in_err-judge-clause-refused : goal.returns-in_err-judge-clause-refused
returns-in_err-judge-clause-refused c =
    let p = err_from_is_err_and c.from_residual-in_err-judge.result c.from_residual-in_err-judge.ensures.1 in
    rw (p.1, p.2) (
    refused_on c.outlines_are_judged_alike.ensures.judged c.args.image.now.disk c.args.outline.now c.requires.outline
    (asked_for c.args.command.now) (named_command c.in_ok-command.command)
    c.in_ok-command.ensures.spelled c.in_err-judge.field-0.0 c.in_err-judge.ensures.refused)

pub carry_or_restore-requires-clause-judged : goal.carry_or_restore-requires-clause-judged
carry_or_restore-requires-clause-judged c = record {
  outline = c.requires.outline;
  names = c.in_ok-command.ensures.spelled.0;
  unrefused = c.in_ok-judge.ensures.unrefused;
}

pub returns-clause-planned : goal.returns-clause-planned
returns-clause-planned c =
    IfOk-weaker c.carry_or_restore.result _ _ (λ patch finished. finished.plans
    (asked_for c.args.command.now) c.in_ok-command.ensures.spelled) c.carry_or_restore.ensures.finished

pub returns-clause-refused : goal.returns-clause-refused
returns-clause-refused c =
    IfErr-weaker c.carry_or_restore.result _ _ (λ r refused. refused (asked_for c.args.command.now) c.in_ok-command.ensures.spelled)
    c.carry_or_restore.ensures.refused

pub returns-clause-outline : goal.returns-clause-outline
returns-clause-outline c =
    IfOk-weaker c.carry_or_restore.result _ _ (λ patch finished. finished.outline) c.carry_or_restore.ensures.finished
