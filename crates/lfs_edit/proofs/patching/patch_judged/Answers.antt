-- What no check refuses is carried out, and what it leaves is written.
use Rattle.std.proofs.Common.{ℕ, List, sym, subst, inl, inr}
use Rattle.std.proofs.lemmas.Result.{err_from_is_err_and}
use Rattle.lfs_block.specs.Disk.{Disk, IsDisk}
use Rattle.lfs_fs.specs.Table.{IsTableOf}
use Rattle.lfs_fs.specs.Volume.{Volume}
use Rattle.lfs_law.specs.NeedsSmall.{HeldHaveFewEntries}
use Rattle.lfs_command.specs.AskedFor.{named_command}
use Rattle.lfs_command.specs.Clean.{clean}
use Rattle.lfs_command.specs.Command.{Command}
use Rattle.lfs_edit.specs.Carried.{IsCutReady, IsFinished, IsHeldJudged, IsJudged}
use Rattle.lfs_edit.specs.CarryingLaws.{CarryingLaws}
use Rattle.lfs_edit.proofs.CarryingLemmas.{carried_out}
use Rattle.lfs_edit.proofs.JudgedLemmas.{contents_short, editable, holdable, refused_by}
use Rattle.lfs_edit.proofs.TableLemmas.{table_behind}
use Rattle.lfs_edit.proofs.patching.patch_judged.Goals as goal

-- it is judged on the volume that the image holds
judged_held : CarryingLaws → HeldHaveFewEntries → (d : Disk) → IsDisk d → (c : Command) (o : Volume) (judged : IsHeldJudged d c o)
    → IsJudged judged.outline.volume c o
judged_held laws few d disk c o judged = record {
  is = record {
    holdable = holdable laws.marks laws.by_links few d disk judged.outline.volume judged.outline.sound judged.outline.holds;
    outline = judged.outline.outline;
  };
  names = judged.names;
  unrefused = judged.unrefused;
}

pub carry_judged-requires-clause-judged : goal.carry_judged-requires-clause-judged
carry_judged-requires-clause-judged c = (
  c.requires.judged.outline.volume,
  judged_held c.carrying_laws.ensures c.held_volumes_have_few_entries.ensures c.args.image.now.disk
      c.size-size.ensures.disk (named_command c.args.command.now) c.args.outline.now c.requires.judged,
)

pub returns-in_err-carried-clause-refused : goal.returns-in_err-carried-clause-refused
returns-in_err-carried-clause-refused c =
    let d = c.args.image.now.disk in
    let command = named_command c.args.command.now in
    let is = c.requires.judged.outline in
    let p = err_from_is_err_and c.from_residual.result c.from_residual.ensures.1 in
    rw (p.1, p.2) (elim c.in_err-carried.ensures.refused [
      | inl memory ↦ inl memory
      | inr refused ↦ inr (refused_by d command is.volume is.sound is.holds c.in_err-carried.field-0.0
          (refused is.volume (judged_held c.carrying_laws.ensures c.held_volumes_have_few_entries.ensures d c.size-size.ensures.disk command
          c.args.outline.now c.requires.judged)))
    ])

pub written-requires-clause-cut : goal.written-requires-clause-cut
written-requires-clause-cut c =
    let command = named_command c.args.command.now in
    let is = c.requires.judged.outline in
    let judged = judged_held c.carrying_laws.ensures c.held_volumes_have_few_entries.ensures c.args.image.now.disk
    c.size-size.ensures.disk command c.args.outline.now c.requires.judged in
    record {
      volume = is.volume;
      holds = is.holds;
      cut = subst (λ (blocks : List ℕ). IsCutReady is.volume command c.carry_judged.new.used blocks c.carry_judged.new.outline)
          (sym c.deref.ensures.value) (c.in_ok-carried.ensures.cut is.volume judged);
    }

pub written-requires-clause-len : goal.written-requires-clause-len
written-requires-clause-len c =
    contents_short c.args.outline.now c.args.command.now
    (editable c.outlines_are_sound.ensures c.names_are_ordered.ensures c.requires.judged.outline.volume (named_command c.args.command.now)
    c.args.outline.now
    (judged_held c.carrying_laws.ensures c.held_volumes_have_few_entries.ensures c.args.image.now.disk
    c.size-size.ensures.disk (named_command c.args.command.now) c.args.outline.now c.requires.judged))

pub settle-requires-clause-table : goal.settle-requires-clause-table
settle-requires-clause-table c =
    let command = named_command c.args.command.now in
    let carried = c.in_ok-carried.carried in
    let v = c.requires.judged.outline.volume in
    let is = c.requires.judged.outline.outline in
    let judged = judged_held c.carrying_laws.ensures c.held_volumes_have_few_entries.ensures c.args.image.now.disk
    c.size-size.ensures.disk command c.args.outline.now c.requires.judged in
    table_behind c.tables_follow.ensures v command c.args.outline.now (clean c.carry_judged.new.outline) c.carry_judged.new.used
    carried.blocks.items carried.gone.items is c.in_ok-carried.ensures.table
    (carried_out c.carrying_laws.ensures v command c.carry_judged.new.used carried.blocks.items carried.gone.items c.args.outline.now
    c.carry_judged.new.outline is (c.in_ok-carried.ensures.cut v judged) c.in_ok-carried.ensures.gone)

pub returns-clause-finished : goal.returns-clause-finished
returns-clause-finished c =
    subst (IsFinished c.args.image.now.disk (named_command c.args.command.now) c.in_ok-patch.patch) (sym c.settle.ensures.outline)
    c.in_ok-patch.ensures

pub returns-clause-table : goal.returns-clause-table
returns-clause-table c =
    subst (λ (o : Volume). IsTableOf o c.settle.new.used) (sym c.settle.ensures.outline) c.settle.ensures.table
