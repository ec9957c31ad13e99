-- Taking an entry out leaves where directories begin.
use Rattle.std.proofs.Common.{arith}
use Rattle.lfs_command.specs.DirectoryEdit.{unlink_in}
use Rattle.lfs_law.proofs.DirectoryEdits.{keeps_unlink}
use Rattle.lfs_draft.proofs.EditableLemmas.{begins_kept}
use Rattle.lfs_draft.proofs.thread_changes.remove.Goals as goal

pub drop_directory-requires : goal.drop_directory-requires
drop_directory-requires c =
    let n = c.args.parent.name.now in
    rw c.unlink.ensures (omega (
      arith,
      begins_kept c.in-Some.pair c.args.parent.pair (unlink_in n) c.args.directories.now.items
          (keeps_unlink n),
      c.requires.once c.in-Some.pair,
    ))
