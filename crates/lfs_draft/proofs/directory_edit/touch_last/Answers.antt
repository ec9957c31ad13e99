-- The parts are those in the box.
use Rattle.std.proofs.Common.{ap, ◌∙◌}
use Rattle.lfs_fs.specs.declared.outline_directory.OutlineParts.{OutlineParts}
use Rattle.lfs_command.specs.DirectoryEdit.{touch_last}
use Rattle.lfs_draft.proofs.directory_edit.touch_last.Goals as goal

pub returns : goal.returns
returns c =
    c.touch_last_part.ensures
    ∙ ap (λ (ps : OutlineParts). touch_last (record { first = ps.first; more = ps.more.items })) c.deref_mut-parts.ensures.value
    ∙ ap touch_last c.directory.view_is
