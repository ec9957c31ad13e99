use Rattle.lfs_fs.proofs.RowLemmas.{rows_are_unique}
use Rattle.lfs_fs.proofs.laws.rows_are_unique.Goals as goal

pub returns : goal.returns
returns c = rows_are_unique
