use Rattle.lfs_settle.proofs.SettledThread.{settled_linked, settled_name_no_more, settled_no_state, settled_stay}
use Rattle.lfs_settle.proofs.laws.settled_parts_are_a_thread.Goals as goal

pub returns-clause-linked : goal.returns-clause-linked
returns-clause-linked c = settled_linked

pub returns-clause-named : goal.returns-clause-named
returns-clause-named c = settled_name_no_more

pub returns-clause-no_state : goal.returns-clause-no_state
returns-clause-no_state c = settled_no_state

pub returns-clause-stay : goal.returns-clause-stay
returns-clause-stay c = settled_stay
