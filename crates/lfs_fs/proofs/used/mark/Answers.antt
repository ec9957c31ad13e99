use Rattle.lfs_fs.proofs.UsedLemmas.{marked_twice}
use Rattle.lfs_fs.proofs.used.mark.Goals as goal

pub returns-then-used-index-clause-refused : goal.returns-then-used-index-clause-refused
returns-then-used-index-clause-refused c = (c.args.block, marked_twice c.args.used.now c.args.block c.if-used-index.true)
