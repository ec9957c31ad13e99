-- The one directory of the pair is changed where it stands.
use Rattle.std.proofs.Common.{◌≤◌, count_by, ap, sym, subst, slice_set, ◌∙◌}
use Rattle.std.specs.List.{position}
use Rattle.std.proofs.lemmas.List.{set-get_or}
use Rattle.std.proofs.lemmas.List.Elements.{All-get_or}
use Rattle.std.proofs.lemmas.List.Quantifiers.{position-Some}
use Rattle.std.proofs.lemmas.Result.{err_from_is_err_and}
use Rattle.lfs_fs.specs.Directory.{Directory, begins_at, entries}
use Rattle.lfs_fs.specs.Entry.{is_named}
use Rattle.lfs_command.specs.DirectoryEdit.{change_in}
use Rattle.lfs_draft.specs.EntryChange.{entry_change}
use Rattle.lfs_draft.proofs.OneIndex.{at_position, at_no_position}
use Rattle.lfs_draft.proofs.thread_edit.change.Goals as goal

pub returns-in_ok-change_in-clause-changed : goal.returns-in_ok-change_in-clause-changed
returns-in_ok-change_in-clause-changed c =
    at_position (begins_at c.args.pair) (change_in c.args.name.now (entry_change c.args.change)) c.args.directories.now.items c.in-Some.at
    c.index_mut.result.now c.change_in.new.directory
    (ap (position (begins_at c.args.pair)) (sym c.deref.ensures.value) ∙ sym c.directory_of.ensures ∙ c.in-Some.is)
    c.requires.one
    (c.in_ok-change_in.ensures.changed ∙ ap (change_in c.args.name.now (entry_change c.args.change)) c.index_mut.ensures.value)

pub returns-in_default-clause-changed : goal.returns-in_default-clause-changed
returns-in_default-clause-changed c =
    sym (at_no_position (begins_at c.args.pair) (change_in c.args.name.now (entry_change c.args.change)) c.args.directories.now.items
    (ap (position (begins_at c.args.pair)) (sym c.deref.ensures.value) ∙ sym c.directory_of.ensures ∙ c.in_default.is))

pub change_in-requires-clause-once : goal.change_in-requires-clause-once
change_in-requires-clause-once c =
    let few : Directory → Type 0 = λ d. count_by (is_named c.args.name.now) (entries d) ≤ 1 in
    let found = position-Some (begins_at c.args.pair) c.args.directories.now.items c.in-Some.at c.index_mut.result.now
    (ap (position (begins_at c.args.pair)) (sym c.deref.ensures.value) ∙ sym c.directory_of.ensures ∙ c.in-Some.is) in
    subst few (sym c.index_mut.ensures.value)
    (All-get_or few c.args.directories.now.items c.in-Some.at c.index_mut.result.now found.0 c.requires.once)

pub returns-in_err-change_in-clause-changed : goal.returns-in_err-change_in-clause-changed
returns-in_err-change_in-clause-changed c = rw (err_from_is_err_and c.from_residual.result c.from_residual.ensures.1).1 tt

pub returns-in_err-change_in-clause-unchanged : goal.returns-in_err-change_in-clause-unchanged
returns-in_err-change_in-clause-unchanged c =
    rw (err_from_is_err_and c.from_residual.result c.from_residual.ensures.1).1 (
    ap (slice_set c.args.directories.now.items c.in-Some.at) (c.in_err-change_in.ensures.unchanged ∙ c.index_mut.ensures.value)
    ∙ set-get_or c.args.directories.now.items c.in-Some.at _)
