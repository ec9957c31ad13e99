-- A directory that doesn't stay is dropped.
use Rattle.lfs_settle.proofs.threading.put_or_drop.Goals as goal

pub returns-clause-dropped : goal.returns-clause-dropped
returns-clause-dropped c = rw c.if-stays.false c.push_dropped.ensures
