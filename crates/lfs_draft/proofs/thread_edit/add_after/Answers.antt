-- The directory goes in behind the first one of the pair.
use Rattle.std.proofs.Common.{ap, sym, ◌∙◌}
use Rattle.std.specs.List.{position}
use Rattle.lfs_fs.specs.Directory.{begins_at}
use Rattle.lfs_command.specs.DirectoryEdit.{touch_last}
use Rattle.lfs_draft.proofs.AddedDirectories.{added_behind, not_added}
use Rattle.lfs_draft.proofs.thread_edit.add_after.Goals as goal

pub returns-in_ok-insert-clause-added : goal.returns-in_ok-insert-clause-added
returns-in_ok-insert-clause-added c =
    added_behind c.args.pair c.args.new c.args.directories.now.items c.insert.new.self.items c.in-Some.at c.index_mut.result.now
    c.touch_last.new.directory
    (ap (position (begins_at c.args.pair)) (sym c.deref.ensures.value) ∙ sym c.directory_of.ensures ∙ c.in-Some.is)
    c.in_ok-insert.ensures.items
    (c.touch_last.ensures ∙ ap touch_last c.index_mut.ensures.value)

pub returns-in_default-clause-added : goal.returns-in_default-clause-added
returns-in_default-clause-added c =
    not_added c.args.pair c.args.new c.args.directories.now.items
    (ap (position (begins_at c.args.pair)) (sym c.deref.ensures.value) ∙ sym c.directory_of.ensures ∙ c.in_default.is)
