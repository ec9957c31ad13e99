-- A command that no check refuses can be edited, and what it leaves is refused for want of room, or cut.
use Rattle.std.proofs.Common.{◌≡◌, ◌+◌, ℕ, List, refl, ap, sym, ◌∙◌, subst, arith, inl, inr}
use Rattle.std.proofs.lemmas.Result.{err_from_is_err_and}
use Rattle.lfs_block.specs.Geometry.{IsBlockSize}
use Rattle.lfs_fs.specs.Unused.{unused}
use Rattle.lfs_fs.specs.Volume.{Volume}
use Rattle.lfs_draft.specs.LeastSupplies.{least_supplies, made_blocks}
use Rattle.lfs_cut.specs.Front.{IsCleanFrom}
use Rattle.lfs_cut.specs.RoomChecks.{room_checks_on}
use Rattle.lfs_command.specs.AskedFor.{named_command}
use Rattle.lfs_command.specs.Verdict.{first_refusal}
use Rattle.lfs_command.specs.Ordered.{leader}
use Rattle.lfs_edit.specs.Carried.{IsCutReady, supplies_of}
use Rattle.lfs_edit.proofs.JudgedLemmas.{clean_outline, contents_short, editable, edited_known, led, outline_sound, unweighed_leads}
use Rattle.lfs_edit.proofs.ReadyLemmas.{ready_sound}
use Rattle.lfs_edit.proofs.carrying.carry_over.Goals as goal

pub edit_least-requires-clause-editable : goal.edit_least-requires-clause-editable
edit_least-requires-clause-editable c =
    editable c.outlines_are_sound.ensures c.names_are_ordered.ensures c.requires.judged.0 (named_command c.args.command.now)
    c.args.outline.now c.requires.judged.1

pub edit_least-requires-clause-size : goal.edit_least-requires-clause-size
edit_least-requires-clause-size c =
    subst (λ (x : Volume). IsBlockSize x.size) (sym c.requires.judged.1.is.outline) c.requires.judged.1.is.holdable.fits.size_fits

pub edit_least-requires-clause-len : goal.edit_least-requires-clause-len
edit_least-requires-clause-len c =
    contents_short c.args.outline.now c.args.command.now
    (editable c.outlines_are_sound.ensures c.names_are_ordered.ensures c.requires.judged.0 (named_command c.args.command.now)
    c.args.outline.now c.requires.judged.1)

pub data_blocks-requires-clause-size : goal.data_blocks-requires-clause-size
data_blocks-requires-clause-size c =
    subst IsBlockSize (sym (ap (λ (x : Volume). x.size) (c.outline.view_is ∙ c.requires.judged.1.is.outline)))
    c.requires.judged.1.is.holdable.fits.size_fits

pub data_blocks-requires-clause-len : goal.data_blocks-requires-clause-len
data_blocks-requires-clause-len c =
    contents_short c.args.outline.now c.args.command.now
    (editable c.outlines_are_sound.ensures c.names_are_ordered.ensures c.requires.judged.0 (named_command c.args.command.now)
    c.args.outline.now c.requires.judged.1)

pub overflow_add-made : goal.overflow_add-made
overflow_add-made c =
    let v = c.requires.judged.0 in
    let command = named_command c.args.command.now in
    let used = c.args.used.now in
    let o = c.edit_least.new.outline in
    let size : v.size ≡ c.outline.inside.size = sym (ap (λ (x : Volume). x.size) (c.outline.view_is ∙ c.requires.judged.1.is.outline)) in
    let all = edited_known c.carrying_laws.ensures c.needs_are_small.ensures v command c.args.outline.now o used c.requires.judged.1
    c.requires.table c.in_ok-edit_least.ensures in
    omega (arith, all.known.needed, all.known.small, c.data_blocks.ensures v size, c.directory_blocks.ensures)

pub needed_blocks-requires-clause-size : goal.needed_blocks-requires-clause-size
needed_blocks-requires-clause-size c =
    let v = c.requires.judged.0 in
    let command = named_command c.args.command.now in
    let used = c.args.used.now in
    let o = c.edit_least.new.outline in
    let all = edited_known c.carrying_laws.ensures c.needs_are_small.ensures v command c.args.outline.now o used c.requires.judged.1
    c.requires.table c.in_ok-edit_least.ensures in
    omega (arith, all.known.frame, c.requires.judged.1.is.holdable.fits.size_fits.1)

pub needed_blocks-requires-clause-small : goal.needed_blocks-requires-clause-small
needed_blocks-requires-clause-small c =
    let v = c.requires.judged.0 in
    let command = named_command c.args.command.now in
    let used = c.args.used.now in
    let o = c.edit_least.new.outline in
    let size : v.size ≡ c.outline.inside.size = sym (ap (λ (x : Volume). x.size) (c.outline.view_is ∙ c.requires.judged.1.is.outline)) in
    let all = edited_known c.carrying_laws.ensures c.needs_are_small.ensures v command c.args.outline.now o used c.requires.judged.1
    c.requires.table c.in_ok-edit_least.ensures in
    omega (arith, all.known.needed, all.known.small, c.data_blocks.ensures v size, c.directory_blocks.ensures)

pub needed_blocks-requires-clause-front : goal.needed_blocks-requires-clause-front
needed_blocks-requires-clause-front c =
    let v = c.requires.judged.0 in
    let command = named_command c.args.command.now in
    subst (λ (o : Volume). IsCleanFrom c.args.front o.directories) (sym c.in_ok-edit_least.ensures)
    (c.requires.front (least_supplies c.args.outline.now command (unused c.args.used.now))
    (clean_outline v c.args.outline.now c.requires.judged.1.is))

pub cut_ready-requires-clause-front : goal.cut_ready-requires-clause-front
cut_ready-requires-clause-front c =
    let v = c.requires.judged.0 in
    let command = named_command c.args.command.now in
    subst (λ (o : Volume). IsCleanFrom c.args.front o.directories) (sym c.in_ok-edit_least.ensures)
    (c.requires.front (least_supplies c.args.outline.now command (unused c.args.used.now))
    (clean_outline v c.args.outline.now c.requires.judged.1.is))

pub leading_pair-before-requires : goal.leading_pair-before-requires
leading_pair-before-requires c = outline_sound c.outlines_are_sound.ensures c.requires.judged.0 c.args.outline.now c.requires.judged.1.is

pub leader-leading-requires : goal.leader-leading-requires
leader-leading-requires c =
    let v = c.requires.judged.0 in
    let command = named_command c.args.command.now in
    let used = c.args.used.now in
    let o = c.edit_least.new.outline in
    let size : v.size ≡ c.outline.inside.size = sym (ap (λ (x : Volume). x.size) (c.outline.view_is ∙ c.requires.judged.1.is.outline)) in
    let all = edited_known c.carrying_laws.ensures c.needs_are_small.ensures v command c.args.outline.now o used c.requires.judged.1
    c.requires.table c.in_ok-edit_least.ensures in
    let made : c.data_blocks.result + c.directory_blocks.result ≡ made_blocks v command =
    omega (arith, c.data_blocks.ensures v size, c.directory_blocks.ensures) in
    ready_sound c.carrying_laws.ensures c.outlines_are_sound.ensures v command used c.in_ok-blocks.blocks.items o
    (led v command used o all.is c.in_ok-blocks.blocks.items (c.data_blocks.result + c.directory_blocks.result)
    (leader v command (supplies_of v command)) all.known made c.in_ok-blocks.ensures.unrefused c.in_ok-blocks.ensures.blocks refl).ready

pub returns-in_err-blocks-clause-refused : goal.returns-in_err-blocks-clause-refused
returns-in_err-blocks-clause-refused c =
    let command = named_command c.args.command.now in
    let used = c.args.used.now in
    let o = c.edit_least.new.outline in
    let p = err_from_is_err_and c.from_residual-in_err-blocks.result c.from_residual-in_err-blocks.ensures.1 in
    rw (p.1, p.2) (elim c.in_err-blocks.ensures.refused [
      | inl memory ↦ inl memory
      | inr refused ↦ inr (λ v judged.
          let all = edited_known c.carrying_laws.ensures c.needs_are_small.ensures v command c.args.outline.now o used judged
          c.requires.table c.in_ok-edit_least.ensures in
          let size : v.size ≡ c.outline.inside.size = sym (ap (λ (x : Volume). x.size) (c.outline.view_is ∙ judged.is.outline)) in
          let made : c.data_blocks.result + c.directory_blocks.result ≡ made_blocks v command =
          omega (arith, c.data_blocks.ensures v size, c.directory_blocks.ensures) in
          sym all.known.judged ∙ ap (λ (n : ℕ). first_refusal (room_checks_on o n (unused used))) (sym made) ∙ refused)
    ])

pub cut_ready-requires-clause-led : goal.cut_ready-requires-clause-led
cut_ready-requires-clause-led c =
    let v = c.requires.judged.0 in
    let command = named_command c.args.command.now in
    let used = c.args.used.now in
    let o = c.edit_least.new.outline in
    let size : v.size ≡ c.outline.inside.size = sym (ap (λ (x : Volume). x.size) (c.outline.view_is ∙ c.requires.judged.1.is.outline)) in
    let all = edited_known c.carrying_laws.ensures c.needs_are_small.ensures v command c.args.outline.now o used c.requires.judged.1
    c.requires.table c.in_ok-edit_least.ensures in
    let made : c.data_blocks.result + c.directory_blocks.result ≡ made_blocks v command =
    omega (arith, c.data_blocks.ensures v size, c.directory_blocks.ensures) in (
      v,
      command,
      used,
      led v command used o all.is c.deref.result.now (c.data_blocks.result + c.directory_blocks.result)
          c.leader-leading.result all.known made c.in_ok-blocks.ensures.unrefused (c.deref.ensures.value ∙ c.in_ok-blocks.ensures.blocks)
          (unweighed_leads c.carrying_laws.ensures v command c.args.outline.now o used c.requires.judged.1.is.outline all.is
          c.leading_pair-before.result c.leader-leading.result c.leading_pair-before.ensures c.leader-leading.ensures),
    )

pub returns-clause-cut : goal.returns-clause-cut
returns-clause-cut c v judged =
    let command = named_command c.args.command.now in
    let used = c.args.used.now in
    let o = c.edit_least.new.outline in
    let all = edited_known c.carrying_laws.ensures c.needs_are_small.ensures v command c.args.outline.now o used judged
    c.requires.table c.in_ok-edit_least.ensures in
    let size : v.size ≡ c.outline.inside.size = sym (ap (λ (x : Volume). x.size) (c.outline.view_is ∙ judged.is.outline)) in
    let made : c.data_blocks.result + c.directory_blocks.result ≡ made_blocks v command =
    omega (arith, c.data_blocks.ensures v size, c.directory_blocks.ensures) in
    subst (λ (blocks : List ℕ). IsCutReady v command used blocks c.cut_ready.new.outline) c.deref.ensures.value
    (c.in_ok-cut_ready.ensures.cut v command used
    (led v command used o all.is c.deref.result.now (c.data_blocks.result + c.directory_blocks.result) c.leader-leading.result all.known made
    c.in_ok-blocks.ensures.unrefused (c.deref.ensures.value ∙ c.in_ok-blocks.ensures.blocks)
    (unweighed_leads c.carrying_laws.ensures v command c.args.outline.now o used judged.is.outline all.is
    c.leading_pair-before.result c.leader-leading.result c.leading_pair-before.ensures c.leader-leading.ensures)))
