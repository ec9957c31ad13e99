-- What no check refuses is edited and cut, with a table that is long enough.
use Rattle.std.proofs.Common.{◌≡◌, ◌⊎◌, ℕ, Some, ap, sym, subst, ◌∙◌}
use Rattle.std.proofs.lemmas.Result.{err_from_is_err_and}
use Rattle.lfs_fs.specs.Sound.{IsSound}
use Rattle.lfs_fs.specs.Table.{IsTableOf}
use Rattle.lfs_fs.specs.Uses.{times}
use Rattle.lfs_fs.specs.Volume.{Volume}
use Rattle.lfs_draft.specs.Editable.{IsEditable}
use Rattle.lfs_command.specs.AskedFor.{named_command}
use Rattle.lfs_command.specs.declared.refusal.Refusal.TheVariants.{Memory}
use Rattle.lfs_command.specs.Clean.{IsClean}
use Rattle.lfs_command.specs.Freed.{freed_uses}
use Rattle.lfs_command.specs.Supplies.{Supplies}
use Rattle.lfs_command.specs.Verdict.{verdict}
use Rattle.lfs_command.specs.Growth.{count_after, grown}
use Rattle.lfs_law.specs.EditedOutline.{edited_outline}
use Rattle.lfs_law.specs.Lengthened.{with_count}
use Rattle.lfs_cut.specs.Front.{IsCleanFrom}
use Rattle.lfs_edit.specs.Carried.{IsJudged}
use Rattle.lfs_edit.proofs.JudgedLemmas.{editable, long_sound}
use Rattle.lfs_edit.proofs.carrying.carry_judged.Goals as goal

pub count_in_front-front-requires : goal.count_in_front-front-requires
count_in_front-front-requires c =
    editable c.outlines_are_sound.ensures c.names_are_ordered.ensures c.requires.judged.0 (named_command c.args.command.now)
    c.args.outline.now c.requires.judged.1

pub lengthen-requires-clause-sound : goal.lengthen-requires-clause-sound
lengthen-requires-clause-sound c =
    let command = named_command c.args.command.now in
    let o = c.args.outline.now in
    let counted = c.count_after-count.ensures ∙ ap (λ (v : Volume). count_after command v.count) c.outline.view_is in
    subst (λ (n : ℕ). IsSound (with_count n o)) (sym counted)
    (long_sound c.counts_grow.ensures c.outlines_are_sound.ensures c.requires.judged.0 command o c.requires.judged.1)

pub freed_blocks-requires : goal.freed_blocks-requires
freed_blocks-requires c =
    subst (λ (o : Volume). IsEditable o (named_command c.args.command.now)) (sym c.in_ok-lengthen.ensures.same)
    (editable c.outlines_are_sound.ensures c.names_are_ordered.ensures c.requires.judged.0
    (named_command c.args.command.now) c.args.outline.now c.requires.judged.1)

pub carry_over-requires-clause-judged : goal.carry_over-requires-clause-judged
carry_over-requires-clause-judged c = (
  c.requires.judged.0,
  subst (IsJudged c.requires.judged.0 (named_command c.args.command.now)) (sym c.in_ok-lengthen.ensures.same)
      c.requires.judged.1,
)

pub carry_over-requires-clause-front : goal.carry_over-requires-clause-front
carry_over-requires-clause-front c =
    subst (λ (o : Volume). (s : Supplies) → IsClean o
    → IsCleanFrom c.count_in_front-front.result (edited_outline o (named_command c.args.command.now) s).directories)
    (sym c.in_ok-lengthen.ensures.same) c.count_in_front-front.ensures

pub carry_over-requires-clause-table : goal.carry_over-requires-clause-table
carry_over-requires-clause-table c =
    let command = named_command c.args.command.now in
    let o = c.args.outline.now in
    let counted = c.count_after-count.ensures ∙ ap (λ (v : Volume). count_after command v.count) c.outline.view_is in
    subst (λ (x : Volume). IsTableOf (grown command x) c.lengthen.new.used) (sym c.in_ok-lengthen.ensures.same)
    (subst (λ (n : ℕ). IsTableOf (with_count n o) c.lengthen.new.used) counted c.in_ok-lengthen.ensures.table)

pub returns-in_err-blocks-clause-refused : goal.returns-in_err-blocks-clause-refused
returns-in_err-blocks-clause-refused c =
    let command = named_command c.args.command.now in
    let p = err_from_is_err_and c.from_residual-in_err-blocks.result c.from_residual-in_err-blocks.ensures.1 in
    rw (p.1, p.2) (subst (λ (o : Volume). (c.in_err-blocks.field-0.0 ≡ Memory)
    ⊎ ((v : Volume) → IsJudged v command o → verdict v command ≡ Some c.in_err-blocks.field-0.0)) c.in_ok-lengthen.ensures.same
    c.in_err-blocks.ensures.refused)

pub returns-clause-cut : goal.returns-clause-cut
returns-clause-cut c v judged =
    c.in_ok-blocks.ensures.cut v (subst (IsJudged v (named_command c.args.command.now)) (sym c.in_ok-lengthen.ensures.same) judged)

pub returns-clause-gone : goal.returns-clause-gone
returns-clause-gone c =
    subst (λ (o : Volume). (b : ℕ) → times b c.in_ok-gone.gone.items ≡ freed_uses o (named_command c.args.command.now) b)
    c.in_ok-lengthen.ensures.same c.in_ok-gone.ensures

pub returns-clause-table : goal.returns-clause-table
returns-clause-table c =
    let command = named_command c.args.command.now in
    let o = c.args.outline.now in
    let counted = c.count_after-count.ensures ∙ ap (λ (v : Volume). count_after command v.count) c.outline.view_is in
    subst (λ (n : ℕ). IsTableOf (with_count n o) c.lengthen.new.used) counted c.in_ok-lengthen.ensures.table
