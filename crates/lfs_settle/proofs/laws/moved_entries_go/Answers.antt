use Rattle.lfs_settle.proofs.MovedEntry.{moved_entry_goes, others_stay}
use Rattle.lfs_settle.proofs.laws.moved_entries_go.Goals as goal

pub returns-clause-goes : goal.returns-clause-goes
returns-clause-goes c = moved_entry_goes

pub returns-clause-stay : goal.returns-clause-stay
returns-clause-stay c = others_stay
