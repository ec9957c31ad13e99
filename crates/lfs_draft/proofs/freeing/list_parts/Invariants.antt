use Rattle.std.proofs.Common.{take}
use Rattle.std.specs.Prelude.{sum_by}
use Rattle.lfs_draft.specs.Freeing.{ListsMore}
use Rattle.lfs_fs.specs.Uses.{part_uses}
use Rattle.lfs_draft.proofs.freeing.list_parts.Given as goal

abbrev pub invariant-each : goal.invariant-each
invariant-each l = ListsMore l.fn.blocks.items l.blocks.items (λ b. sum_by (part_uses b) (take l.part-index l.parts))
