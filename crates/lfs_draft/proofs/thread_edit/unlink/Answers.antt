-- The one directory of the pair is changed where it stands.
use Rattle.std.proofs.Common.{◌≤◌, count_by, ap, sym, subst, ◌∙◌}
use Rattle.std.specs.List.{position}
use Rattle.std.proofs.lemmas.List.Elements.{All-get_or}
use Rattle.std.proofs.lemmas.List.Quantifiers.{position-Some}
use Rattle.lfs_fs.specs.Directory.{Directory, begins_at, entries}
use Rattle.lfs_fs.specs.Entry.{is_named}
use Rattle.lfs_command.specs.DirectoryEdit.{unlink_in}
use Rattle.lfs_draft.proofs.OneIndex.{at_position, at_no_position}
use Rattle.lfs_draft.proofs.thread_edit.unlink.Goals as goal

pub returns-in-Some : goal.returns-in-Some
returns-in-Some c =
    at_position (begins_at c.args.pair) (unlink_in c.args.name.now) c.args.directories.now.items c.in-Some.at c.index_mut.result.now
    c.unlink_in.new.directory
    (ap (position (begins_at c.args.pair)) (sym c.deref.ensures.value) ∙ sym c.directory_of.ensures ∙ c.in-Some.is)
    c.requires.one
    (c.unlink_in.ensures ∙ ap (unlink_in c.args.name.now) c.index_mut.ensures.value)

pub unlink_in-requires : goal.unlink_in-requires
unlink_in-requires c =
    let few : Directory → Type 0 = λ d. count_by (is_named c.args.name.now) (entries d) ≤ 1 in
    let found = position-Some (begins_at c.args.pair) c.args.directories.now.items c.in-Some.at c.index_mut.result.now
    (ap (position (begins_at c.args.pair)) (sym c.deref.ensures.value) ∙ sym c.directory_of.ensures ∙ c.in-Some.is) in
    subst few (sym c.index_mut.ensures.value)
    (All-get_or few c.args.directories.now.items c.in-Some.at c.index_mut.result.now found.0 c.requires.once)

pub returns-in_default : goal.returns-in_default
returns-in_default c =
    sym (at_no_position (begins_at c.args.pair) (unlink_in c.args.name.now) c.args.directories.now.items
    (ap (position (begins_at c.args.pair)) (sym c.deref.ensures.value) ∙ sym c.directory_of.ensures ∙ c.in_default.is))
