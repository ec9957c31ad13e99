-- Nothing goes out where the image doesn't mount.
use Rattle.std.proofs.lemmas.Result.{err_from_is_err_and}
use Rattle.lfs_step.proofs.ListingLemmas.{listing_silent}
use Rattle.lfs_step.proofs.querying.say_listing.Goals as goal

pub returns-in_err-mounted-clause-sent : goal.returns-in_err-mounted-clause-sent
returns-in_err-mounted-clause-sent g c =
    let p = err_from_is_err_and c.from_residual.result c.from_residual.ensures.1 in
    rw p.1 (listing_silent c.args.form c.args.digests c.args.path c.args.image.now.disk c.in_err-mounted.field-0.0 p.0 (g.S.Sink.sent c.args.out.now) p.2)
