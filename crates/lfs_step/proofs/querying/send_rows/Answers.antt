-- The digests of the image's files are said too, or not.
use Rattle.std.proofs.Common.{Bool, List, subst, sym}
use Rattle.std.specs.Result.{result_err}
use Rattle.lfs_fs.specs.Row.{Row}
use Rattle.lfs_listing.specs.Below.{listing_at, names}
use Rattle.lfs_listing.specs.Unsent.{SendsListing}
use Rattle.lfs_step.specs.Listed.{listing_text}
use Rattle.lfs_step.proofs.querying.send_rows.Goals as goal

pub returns-then-digests-clause-sent : goal.returns-then-digests-clause-sent
returns-then-digests-clause-sent g c =
    let sends = SendsListing (result_err c.send_digests.result) (g.S.Sink.sent c.args.out.now) (g.S.Sink.sent c.send_digests.new.out) in
    subst (λ (digests : Bool). sends (listing_text c.args.form digests c.args.image.now.disk (names c.args.at.now) c.args.mounted.now.rows))
    (sym c.if-digests.true) c.send_digests.ensures.sent

pub returns-clause-sent : goal.returns-clause-sent
returns-clause-sent g c =
    let sends = SendsListing (result_err c.send_listing.result) (g.S.Sink.sent c.args.out.now) (g.S.Sink.sent c.send_listing.new.out) in
    subst (λ (digests : Bool). sends (listing_text c.args.form digests c.args.image.now.disk (names c.args.at.now) c.args.mounted.now.rows))
    (sym c.if-digests.false)
    (subst (λ (rows : List Row). sends (listing_at c.args.form (names c.args.at.now) rows)) c.rows.ensures c.send_listing.ensures.sent)
