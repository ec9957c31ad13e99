use Rattle.lfs_sync.proofs.HeldLemmas.{rows_are_held}
use Rattle.lfs_sync.proofs.laws.mounted_rows_are_held.Goals as goal

pub returns : goal.returns
returns c = rows_are_held c.rows_show_the_tree.ensures
