use Rattle.std.proofs.Common.{take}
use Rattle.std.specs.Prelude.{sum_by}
use Rattle.lfs_fs.specs.MarksMore.{MarksMore}
use Rattle.lfs_fs.specs.Uses.{directory_uses}
use Rattle.lfs_fs.proofs.marking.mark_directories.Given as goal

abbrev pub invariant-each : goal.invariant-each
invariant-each l = MarksMore l.fn.used l.used (λ b. sum_by (directory_uses b) (take l.directory-index l.directories))
