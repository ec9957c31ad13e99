-- A new journal that gets no place is taken away.
use Rattle.std.proofs.Common.{rules}
use Rattle.lfs_exchange.proofs.storing.put_journal.Goals as goal

pub returns-then-is_err-2-clause-files : goal.returns-then-is_err-2-clause-files
returns-then-is_err-2-clause-files g c = search rules
