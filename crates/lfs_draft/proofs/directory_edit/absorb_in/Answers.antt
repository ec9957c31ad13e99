-- The parts are those in the box.
use Rattle.std.proofs.Common.{ap, ◌∙◌}
use Rattle.lfs_fs.specs.declared.outline_directory.OutlineParts.{OutlineParts}
use Rattle.lfs_fs.specs.Directory.{Directory}
use Rattle.lfs_command.specs.DirectoryEdit.{absorb_in}
use Rattle.lfs_draft.proofs.directory_edit.absorb_in.Goals as goal

pub returns : goal.returns
returns c =
    c.absorb_last.ensures
    ∙ ap (λ (ps : OutlineParts). absorb_in c.args.delta.now ps.first ps.more.items) c.deref_mut-parts.ensures.value
    ∙ ap (λ (d : Directory). absorb_in c.args.delta.now d.first d.more) c.directory.view_is
