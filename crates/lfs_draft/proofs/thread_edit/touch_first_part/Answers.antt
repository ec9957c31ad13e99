use Rattle.std.proofs.Common.{true, ap, ◌∙◌}
use Rattle.lfs_fs.specs.declared.outline_directory.OutlineParts.{OutlineParts}
use Rattle.lfs_fs.specs.Directory.{Directory, Part}
use Rattle.lfs_command.specs.DirectoryEdit.{touch}
use Rattle.lfs_draft.proofs.thread_edit.touch_first_part.Goals as goal

pub returns : goal.returns
returns c =
    let put : Part → Directory = λ p. record { first = p; more = c.deref_mut.result.now.more.items } in
    let touched : Directory → Directory = λ d. record { first = touch true (λ es. es) d.first; more = d.more } in
    ap put c.touch.ensures
    ∙ ap (λ (ps : OutlineParts). touched (record { first = ps.first; more = ps.more.items })) c.deref_mut.ensures.value
    ∙ ap touched c.directory.view_is
