use Rattle.std.proofs.Common.{take}
use Rattle.std.specs.Prelude.{if◌then◌else◌, sum_by}
use Rattle.lfs_fs.specs.Uses.{pair_uses}
use Rattle.lfs_command.specs.DirectoryEdit.{has_only}
use Rattle.lfs_draft.specs.Freeing.{ListsMore}
use Rattle.lfs_draft.proofs.freeing.list_emptied.Given as goal

abbrev pub invariant-each : goal.invariant-each
invariant-each l =
    ListsMore l.fn.blocks.items l.blocks.items (λ b. sum_by (λ p. if has_only l.name p then pair_uses b p else 0) (take l.part-index l.parts))
