-- The one part that has the name is the first or one of the others.
use Rattle.std.proofs.Common.{◌≤◌, count_by, subst, ap, sym, ◌∙◌}
use Rattle.lfs_fs.specs.declared.outline_directory.OutlineParts.{OutlineParts}
use Rattle.lfs_fs.specs.Entry.{is_named}
use Rattle.lfs_fs.specs.Directory.{Directory, entries}
use Rattle.lfs_draft.specs.EntryChange.{entry_change}
use Rattle.lfs_command.specs.DirectoryEdit.{change_in, has_name}
use Rattle.lfs_draft.proofs.OneNamed.{changed_in_first, changed_in_more}
use Rattle.lfs_draft.proofs.directory_edit.change_in.Goals as goal

pub returns-in_ok-change_in_part-clause-changed : goal.returns-in_ok-change_in_part-clause-changed
returns-in_ok-change_in_part-clause-changed c =
    let parts = c.deref_mut.result.now in
    changed_in_first c.args.name.now (entry_change c.args.change) parts.first c.change_in_part.new.part parts.more.items
    (ap (λ (ps : OutlineParts). has_name c.args.name.now ps.first) (c.deref_mut.ensures.value ∙ sym c.deref.ensures) ∙ sym c.if-has_name.ensures)
    (subst (λ (ps : OutlineParts). count_by (is_named c.args.name.now) (entries (record { first = ps.first; more = ps.more.items })) ≤ 1)
    (sym c.deref_mut.ensures.value)
    (subst (λ (d : Directory). count_by (is_named c.args.name.now) (entries d) ≤ 1) (sym c.directory.view_is) c.requires.once))
    c.in_ok-change_in_part.ensures.changed
    ∙ ap (λ (ps : OutlineParts). change_in c.args.name.now (entry_change c.args.change) (record { first = ps.first; more = ps.more.items }))
    c.deref_mut.ensures.value
    ∙ ap (change_in c.args.name.now (entry_change c.args.change)) c.directory.view_is

pub returns-in_ok-change_among-clause-changed : goal.returns-in_ok-change_among-clause-changed
returns-in_ok-change_among-clause-changed c =
    let parts = c.deref_mut-else-has_name.result.now in
    changed_in_more c.args.name.now (entry_change c.args.change) parts.first parts.more.items c.change_among.new.parts.items
    (ap (λ (ps : OutlineParts). has_name c.args.name.now ps.first) (c.deref_mut-else-has_name.ensures.value ∙ sym c.deref.ensures)
    ∙ sym c.if-has_name.ensures)
    c.in_ok-change_among.ensures.changed
    ∙ ap (λ (ps : OutlineParts). change_in c.args.name.now (entry_change c.args.change) (record { first = ps.first; more = ps.more.items }))
    c.deref_mut-else-has_name.ensures.value
    ∙ ap (change_in c.args.name.now (entry_change c.args.change)) c.directory.view_is
