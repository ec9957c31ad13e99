-- What stands before the last is drained.
use Rattle.std.proofs.Common.{rules}
use Rattle.lfs_session.proofs.keeping.keep_last.Goals as goal

pub returns-clause-kept : goal.returns-clause-kept
returns-clause-kept c = search rules
