-- Taking an entry out leaves where directories begin.
use Rattle.std.proofs.Common.{arith}
use Rattle.lfs_command.specs.DirectoryEdit.{unlink_in}
use Rattle.lfs_law.proofs.DirectoryEdits.{keeps_unlink}
use Rattle.lfs_draft.proofs.EditableLemmas.{begins_kept}
use Rattle.lfs_draft.proofs.LastNames.{unlinked_rise}
use Rattle.lfs_draft.proofs.thread_changes.move_entry.Goals as goal

pub link-requires-clause-one : goal.link-requires-clause-one
link-requires-clause-one c =
    let n = c.args.from.name.now in
    rw c.unlink.ensures (omega (
      arith,
      begins_kept c.args.to.pair c.args.from.pair (unlink_in n) c.args.directories.now.items
          (keeps_unlink n),
      c.requires.once c.args.to.pair,
    ))

pub link-requires-clause-rise : goal.link-requires-clause-rise
link-requires-clause-rise c =
    rw c.unlink.ensures (unlinked_rise c.args.from.pair c.args.from.name.now c.args.directories.now.items c.requires.rise)
