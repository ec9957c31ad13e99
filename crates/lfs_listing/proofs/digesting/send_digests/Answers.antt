-- The rows are those of the image.
use Rattle.std.proofs.Common.{List, subst}
use Rattle.std.specs.Result.{result_err}
use Rattle.lfs_fs.specs.Row.{Row}
use Rattle.lfs_listing.specs.Below.{digests_at, names}
use Rattle.lfs_listing.specs.Unsent.{SendsListing}
use Rattle.lfs_listing.proofs.digesting.send_digests.Goals as goal

pub returns-clause-sent : goal.returns-clause-sent
returns-clause-sent g c =
    subst (λ (rows : List Row). SendsListing (result_err c.send_rows.result) (g.S.Sink.sent c.args.out.now) (g.S.Sink.sent c.send_rows.new.out)
    (digests_at c.args.form (g.A.Blocks.disk c.args.image.now.disk.now) (names c.args.at.now) rows))
    c.complete_rows.ensures.rows c.send_rows.ensures.sent
