use Rattle.std.proofs.Common.{sym}
use Rattle.std.proofs.lemmas.Result.{on_ok_weaker}
use Rattle.lfs_sync.proofs.merging.Merging.take_next.Goals as goal

pub returns-in-Less-clause-goes_on : goal.returns-in-Less-clause-goes_on
returns-in-Less-clause-goes_on g c =
    on_ok_weaker c.take_held.result
    (λ goes_on. goes_on (g.B.Blocks.disk c.args.disk.now) c.args.rows.now c.args.wanted.now (sym c.in-Less.ensures)) c.take_held.ensures.goes_on

pub returns-in-Greater-clause-goes_on : goal.returns-in-Greater-clause-goes_on
returns-in-Greater-clause-goes_on g c =
    on_ok_weaker c.take_wanted.result
    (λ goes_on. goes_on (g.B.Blocks.disk c.args.disk.now) c.args.held.now (sym c.in-Greater.ensures)) c.take_wanted.ensures.goes_on
