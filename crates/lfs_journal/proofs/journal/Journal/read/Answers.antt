use Rattle.std.proofs.Common.{arith}
use Rattle.lfs_journal.proofs.Books.{is_read, is_refused}
use Rattle.lfs_journal.proofs.journal.Journal.read.Goals as goal

pub returns-clause-spelled : goal.returns-clause-spelled
returns-clause-spelled c = is_read c.args.bytes.now c.read_complete.result (λ i. omega (arith, c.type_inv.bytes i)) c.read_complete.ensures

pub returns-clause-refused : goal.returns-clause-refused
returns-clause-refused c = is_refused c.args.bytes.now c.read_complete.result c.read_complete.ensures
