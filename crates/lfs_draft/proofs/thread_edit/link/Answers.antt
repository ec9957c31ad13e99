-- The one directory of the pair is changed where it stands.
use Rattle.std.proofs.Common.{ap, sym, ◌∙◌}
use Rattle.std.specs.List.{position}
use Rattle.lfs_fs.specs.Directory.{begins_at}
use Rattle.lfs_command.specs.DirectoryEdit.{link_in}
use Rattle.lfs_draft.proofs.OneIndex.{at_position, at_no_position}
use Rattle.lfs_draft.proofs.thread_edit.link.Goals as goal

pub returns-in_ok-link_in-clause-linked : goal.returns-in_ok-link_in-clause-linked
returns-in_ok-link_in-clause-linked c =
    at_position (begins_at c.args.pair) (link_in c.args.entry) c.args.directories.now.items c.in-Some.at c.index_mut.result.now
    c.link_in.new.directory
    (ap (position (begins_at c.args.pair)) (sym c.deref.ensures.value) ∙ sym c.directory_of.ensures ∙ c.in-Some.is)
    c.requires.one
    (c.in_ok-link_in.ensures.linked ∙ ap (link_in c.args.entry) c.index_mut.ensures.value)

pub returns-in_default-clause-linked : goal.returns-in_default-clause-linked
returns-in_default-clause-linked c =
    sym (at_no_position (begins_at c.args.pair) (link_in c.args.entry) c.args.directories.now.items
    (ap (position (begins_at c.args.pair)) (sym c.deref.ensures.value) ∙ sym c.directory_of.ensures ∙ c.in_default.is))
