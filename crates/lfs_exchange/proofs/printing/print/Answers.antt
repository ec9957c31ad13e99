-- The whole text goes out before it is handed on.
use Rattle.std.proofs.Common.{rules}
use Rattle.lfs_exchange.proofs.printing.print.Goals as goal

pub returns-clause-printed : goal.returns-clause-printed
returns-clause-printed g c = search rules
