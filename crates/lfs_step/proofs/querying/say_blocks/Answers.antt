-- What is said of blocks and didn't go out as a whole is told as what kept it.
use Rattle.std.proofs.Common.{Some, sym, subst, ◌∙◌}
use Rattle.lfs_request.specs.declared.fault.Fault.{Fault}
use Rattle.lfs_request.specs.declared.query.Query.TheVariants.{Blocks}
use Rattle.lfs_step.specs.Query.{RefusesReport, SendsReport}
use Rattle.lfs_step.proofs.ListingLemmas.{blamed_alike, blocks_refused, blocks_sent}
use Rattle.lfs_step.proofs.querying.say_blocks.Goals as goal

pub returns-in-Err-clause-refused : goal.returns-in-Err-clause-refused
returns-in-Err-clause-refused g c =
    subst (λ (f : Fault). RefusesReport (Blocks c.args.sums) c.args.form c.args.image.now.disk f) (sym c.fault_of_listing.ensures)
    (blocks_refused c.args.form c.args.sums c.args.image.now.disk c.in_ok-mounted.mounted c.in_ok-mounted.ensures.mounted c.in-Err.unsent)

pub returns-in-Err-clause-sent : goal.returns-in-Err-clause-sent
returns-in-Err-clause-sent g c =
    let old = g.S.Sink.sent c.args.out.now in
    let new = g.S.Sink.sent c.send_blocks-sent.new.out in
    subst (λ (f : Fault). SendsReport (Blocks c.args.sums) c.args.form c.args.image.now.disk (Some f) old new) (sym c.fault_of_listing.ensures)
    (blocks_sent c.args.form c.args.sums c.args.image.now.disk c.in_ok-mounted.mounted c.in_ok-mounted.ensures.mounted c.in-Err.unsent old new
    c.in-Err.ensures.sent)

pub returns-in-Err-clause-failed : goal.returns-in-Err-clause-failed
returns-in-Err-clause-failed g c =
    c.in-Err.ensures.failed ∙ blamed_alike c.in-Err.unsent c.fault_of_listing.result c.fault_of_listing.ensures
