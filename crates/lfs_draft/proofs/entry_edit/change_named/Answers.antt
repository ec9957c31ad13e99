-- The one entry of the name is changed where it stands.
use Rattle.std.proofs.Common.{ap, sym, ◌∙◌}
use Rattle.std.specs.List.{position}
use Rattle.lfs_fs.specs.Entry.{is_named}
use Rattle.lfs_draft.specs.EntryChange.{entry_change}
use Rattle.lfs_draft.proofs.OneIndex.{at_position, at_no_position}
use Rattle.lfs_draft.proofs.entry_edit.change_named.Goals as goal

pub returns-in_ok-change_entry-clause-changed : goal.returns-in_ok-change_entry-clause-changed
returns-in_ok-change_entry-clause-changed c =
    at_position (is_named c.args.name.now) (entry_change c.args.change) c.args.entries.now.items c.in-Some.at c.index_mut.result.now
    c.change_entry.new.entry
    (ap (position (is_named c.args.name.now)) (sym c.deref.ensures.value) ∙ sym c.index_of.ensures ∙ c.in-Some.is)
    c.requires.once
    (c.in_ok-change_entry.ensures.changed ∙ ap (entry_change c.args.change) c.index_mut.ensures.value)

pub returns-in_default-clause-changed : goal.returns-in_default-clause-changed
returns-in_default-clause-changed c =
    sym (at_no_position (is_named c.args.name.now) (entry_change c.args.change) c.args.entries.now.items
    (ap (position (is_named c.args.name.now)) (sym c.deref.ensures.value) ∙ sym c.index_of.ensures ∙ c.in_default.is))
