-- What is asked for is judged, and then carried out.
use Rattle.std.proofs.Common.{sym, subst, inl, inr}
use Rattle.std.proofs.lemmas.Result.{err_from_is_err_and}
use Rattle.lfs_fs.specs.Table.{IsTableOf}
use Rattle.lfs_fs.specs.Volume.{Volume}
use Rattle.lfs_command.specs.AskedFor.{named_command}
use Rattle.lfs_command.specs.Clean.{clean}
use Rattle.lfs_edit.specs.Carried.{IsCarriedOnOutline, IsJudged}
use Rattle.lfs_edit.proofs.CarryingLemmas.{carried_out}
use Rattle.lfs_edit.proofs.JudgedLemmas.{judged_on, outline_sound}
use Rattle.lfs_edit.proofs.TableLemmas.{table_behind}
use Rattle.lfs_edit.proofs.carrying.carry.Goals as goal

pub judge-requires : goal.judge-requires
judge-requires c = outline_sound c.outlines_are_sound.ensures c.requires.outline.0 c.args.outline.now c.requires.outline.1

pub returns-in_err-judge-clause-refused : goal.returns-in_err-judge-clause-refused
returns-in_err-judge-clause-refused c =
    let p = err_from_is_err_and c.from_residual.result c.from_residual.ensures.1 in
    rw (p.1, p.2) (inr (λ v is. judged_on c.carrying_laws.ensures.judged v (named_command c.args.command.now) c.args.outline.now is.outline
    c.in_err-judge.field-0.0 c.in_err-judge.ensures.refused))

pub carry_judged-requires-clause-judged : goal.carry_judged-requires-clause-judged
carry_judged-requires-clause-judged c =
    (c.requires.outline.0, record { is = c.requires.outline.1; names = c.requires.names; unrefused = c.in_ok-judge.ensures.unrefused })

pub returns-in_err-carried-clause-refused : goal.returns-in_err-carried-clause-refused
returns-in_err-carried-clause-refused c =
    let p = err_from_is_err_and c.from_residual-in_err-carried.result c.from_residual-in_err-carried.ensures.1 in
    rw (p.1, p.2) (elim c.in_err-carried.ensures.refused [
      | inl memory ↦ inl memory
      | inr refused ↦ inr (λ v is. refused v (record { is = is; names = c.requires.names; unrefused = c.in_ok-judge.ensures.unrefused }))
    ])

pub settle-requires-clause-table : goal.settle-requires-clause-table
settle-requires-clause-table c =
    let v = c.requires.outline.0 in
    let is = c.requires.outline.1 in
    let command = named_command c.args.command.now in
    let carried = c.in_ok-carried.carried in
    let judged : IsJudged v command c.args.outline.now = record { is = is; names = c.requires.names; unrefused = c.in_ok-judge.ensures.unrefused } in
    table_behind c.tables_follow.ensures v command c.args.outline.now (clean c.carry_judged.new.outline) c.carry_judged.new.used
    carried.blocks.items carried.gone.items is.outline c.in_ok-carried.ensures.table
    (carried_out c.carrying_laws.ensures v command c.carry_judged.new.used carried.blocks.items carried.gone.items c.args.outline.now
    c.carry_judged.new.outline is.outline (c.in_ok-carried.ensures.cut v judged) c.in_ok-carried.ensures.gone)

pub returns-clause-carried : goal.returns-clause-carried
returns-clause-carried c v is =
    let command = named_command c.args.command.now in
    let carried = c.in_ok-carried.carried in
    let judged : IsJudged v command c.args.outline.now = record { is = is; names = c.requires.names; unrefused = c.in_ok-judge.ensures.unrefused } in
    subst (IsCarriedOnOutline v command carried.blocks.items carried.gone.items) (sym c.settle.ensures.outline)
    (carried_out c.carrying_laws.ensures v command c.carry_judged.new.used carried.blocks.items carried.gone.items c.args.outline.now
    c.carry_judged.new.outline is.outline (c.in_ok-carried.ensures.cut v judged) c.in_ok-carried.ensures.gone)

pub returns-clause-table : goal.returns-clause-table
returns-clause-table c =
    subst (λ (o : Volume). IsTableOf o c.settle.new.used) (sym c.settle.ensures.outline) c.settle.ensures.table
