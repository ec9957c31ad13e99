use Rattle.std.proofs.Common.{take}
use Rattle.lfs_fs.specs.MarksMore.{MarksMore}
use Rattle.lfs_fs.specs.Uses.{times}
use Rattle.lfs_fs.proofs.marking.mark_each.Given as goal

abbrev pub invariant-each : goal.invariant-each
invariant-each l = MarksMore l.fn.used l.used (λ b. times b (take l.block-index l.blocks))
