-- All entries come before a name that comes after the last one.
use Rattle.std.proofs.Common.{◌≡◌, true, ap, sym, ◌∙◌}
use Rattle.std.specs.Option.{option_copied}
use Rattle.lfs_meta.specs.Name.{Name}
use Rattle.lfs_fs.specs.Entry.{Entry}
use Rattle.lfs_fs.specs.NameOrder.{precedes}
use Rattle.lfs_draft.proofs.LastNames.{all_stand_before}
use Rattle.lfs_draft.proofs.entry_edit.place_of.Goals as goal

pub returns-in-Some-clause-place : goal.returns-in-Some-clause-place
returns-in-Some-clause-place c =
    all_stand_before c.names_are_ordered.ensures c.args.name.now c.args.entries.now c.in-Some.entry.now c.requires
    (sym c.last.ensures.value ∙ ap option_copied c.in-Some.is)
    (ap (λ (m : Name). precedes m c.args.name.now) (sym (c.deref.ensures.value ∙ ap (λ (e : Entry). e.name) c.entry.view_is))
    ∙ sym c.precedes.ensures ∙ c.if-precedes.true)
