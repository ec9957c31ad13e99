-- A listing that didn't go out as a whole is told as what kept it; nothing goes out where the path is refused.
use Rattle.std.proofs.Common.{Bor, List, Some, inl, subst, sym}
use Rattle.std.specs.Io.KnownBytes.{Appends}
use Rattle.lfs_listing.specs.Below.{names}
use Rattle.lfs_listing.specs.Unsent.{SendsListing}
use Rattle.lfs_meta.specs.Name.{Name}
use Rattle.lfs_request.specs.declared.fault.Fault.{Fault}
use Rattle.lfs_request.specs.declared.query.Query.TheVariants.{Ls}
use Rattle.lfs_step.specs.Listed.{listing_text}
use Rattle.lfs_step.specs.Query.{RefusesReport, SendsReport}
use Rattle.lfs_step.proofs.ComparingLemmas.{same_kept}
use Rattle.lfs_step.proofs.ListingLemmas.{listing_refused, listing_sent, listing_complete}
use Rattle.lfs_step.proofs.querying.say_rows.Goals as goal

pub returns-in-Ok-send_rows-clause-sent : goal.returns-in-Ok-send_rows-clause-sent
returns-in-Ok-send_rows-clause-sent g c =
    let old = g.S.Sink.sent c.args.out.now in
    let new = g.S.Sink.sent c.send_rows.new.out in
    let d = c.args.image.now.disk in
    let rows = c.args.mounted.now.rows in
    let sent : Appends old new (listing_text c.args.form c.args.digests d (names c.in-Ok.names.items) rows) =
    subst (λ (ns : List (Bor Name)). Appends old new (listing_text c.args.form c.args.digests d (names ns) rows)) c.deref.ensures.value
    c.in-Ok-send_rows.ensures.sent in
    listing_complete c.args.form c.args.digests d c.args.mounted.now c.requires.mounted c.args.path (names c.in-Ok.names.items)
    c.in-Ok.ensures.there old new sent

pub returns-in-Ok-clause-refused : goal.returns-in-Ok-clause-refused
returns-in-Ok-clause-refused g c =
    subst (λ (f : Fault). RefusesReport (Ls c.args.path c.args.digests) c.args.form c.args.image.now.disk f) (sym c.fault_of_listing.ensures)
    (listing_refused c.args.form c.args.digests c.args.image.now.disk c.args.mounted.now c.requires.mounted c.args.path
    (names c.in-Ok.names.items) c.in-Ok.ensures.there c.in-Err-send_rows.unsent)

pub returns-in-Ok-clause-sent : goal.returns-in-Ok-clause-sent
returns-in-Ok-clause-sent g c =
    let old = g.S.Sink.sent c.args.out.now in
    let new = g.S.Sink.sent c.send_rows.new.out in
    let d = c.args.image.now.disk in
    let rows = c.args.mounted.now.rows in
    let unsent = c.in-Err-send_rows.unsent in
    let sent : SendsListing (Some unsent) old new (listing_text c.args.form c.args.digests d (names c.in-Ok.names.items) rows) =
    subst (λ (ns : List (Bor Name)). SendsListing (Some unsent) old new (listing_text c.args.form c.args.digests d (names ns) rows))
    c.deref.ensures.value c.in-Err-send_rows.ensures.sent in
    subst (λ (f : Fault). SendsReport (Ls c.args.path c.args.digests) c.args.form d (Some f) old new) (sym c.fault_of_listing.ensures)
    (listing_sent c.args.form c.args.digests d c.args.mounted.now c.requires.mounted c.args.path (names c.in-Ok.names.items)
    c.in-Ok.ensures.there unsent old new sent)

pub returns-clause-sent : goal.returns-clause-sent
returns-clause-sent g c = inl (same_kept (g.S.Sink.sent c.args.out.now))
