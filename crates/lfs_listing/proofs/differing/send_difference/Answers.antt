-- Nothing has gone out where the first rows are refused.
use Rattle.lfs_listing.proofs.BufferLemmas.{under_way}
use Rattle.lfs_listing.proofs.UnsentLemmas.{refused}
use Rattle.lfs_listing.proofs.differing.send_difference.Goals as goal

pub returns-in_err-left-clause-sent : goal.returns-in_err-left-clause-sent
returns-in_err-left-clause-sent g c =
    refused c.from_residual.result _ _ _ _ _ c.from_residual.ensures.1 (under_way (g.S.Sink.sent c.args.out.now) _)

pub returns-in_err-right-clause-sent : goal.returns-in_err-right-clause-sent
returns-in_err-right-clause-sent g c =
    refused c.from_residual-in_err-right.result _ _ _ _ _ c.from_residual-in_err-right.ensures.1 (under_way (g.S.Sink.sent c.args.out.now) _)
