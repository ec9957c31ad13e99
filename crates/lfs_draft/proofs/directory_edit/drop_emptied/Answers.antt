-- The part that goes is taken out at its place, and the part before it is changed where it stands.
use Rattle.std.proofs.Common.{ap, sym, ◌∙◌, arith}
use Rattle.std.specs.List.{position}
use Rattle.lfs_fs.specs.Directory.{Part}
use Rattle.lfs_command.specs.DirectoryEdit.{has_only, taking_up}
use Rattle.lfs_draft.proofs.DroppedParts.{dropped_later, dropped_first, dropped_none}
use Rattle.lfs_draft.proofs.directory_edit.drop_emptied.Goals as goal

pub returns-in_default : goal.returns-in_default
returns-in_default c =
    dropped_none (has_only c.args.name.now) c.args.first.now c.args.more.now.items
    (ap (position (has_only c.args.name.now)) (sym c.deref.ensures.value) ∙ sym c.first_with_only.ensures ∙ c.in_default.is)

pub returns-then-at-gt0 : goal.returns-then-at-gt0
returns-then-at-gt0 c =
    dropped_later (has_only c.args.name.now) c.args.first.now c.args.more.now.items c.remove-gone.new.self.items c.in-Some.at
    c.remove-gone.result c.index_mut.result.now c.absorb_into.new.part
    (ap (position (has_only c.args.name.now)) (sym c.deref.ensures.value) ∙ sym c.first_with_only.ensures ∙ c.in-Some.is)
    c.requires
    c.if-at-gt0.true
    c.remove-gone.ensures.items
    c.remove-gone.ensures.value
    c.index_mut.ensures.value
    (c.absorb_into.ensures ∙ ap (λ (p : Part). taking_up p.delta c.index_mut.result.now) c.gone.view_is)

pub returns : goal.returns
returns c =
    dropped_first (has_only c.args.name.now) c.args.first.now c.absorb_into-else-at-gt0.new.part c.args.more.now.items
    c.remove-gone.new.self.items c.in-Some.at c.remove-gone.result
    (ap (position (has_only c.args.name.now)) (sym c.deref.ensures.value) ∙ sym c.first_with_only.ensures ∙ c.in-Some.is)
    c.requires
    (omega (arith, c.if-at-gt0.false))
    c.remove-gone.ensures.items
    c.remove-gone.ensures.value
    (c.absorb_into-else-at-gt0.ensures ∙ ap (λ (p : Part). taking_up p.delta c.args.first.now) c.gone.view_is)
