use Rattle.std.proofs.Common.{take}
use Rattle.std.specs.Prelude.{sum_by}
use Rattle.lfs_fs.specs.Used.{MarksBeside}
use Rattle.lfs_fs.specs.Uses.{entry_uses}
use Rattle.lfs_fs.proofs.used_files.mark_files.Given as goal

abbrev pub invariant-each : goal.invariant-each
invariant-each l = MarksBeside l.fn.used l.used (λ b. sum_by (entry_uses b) (take l.entry-index l.entries))
