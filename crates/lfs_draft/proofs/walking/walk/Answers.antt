-- One more name is gone along.
use Rattle.std.proofs.Common.{◌∙◌}
use Rattle.lfs_draft.proofs.WalkSteps.{leads_more, refuses_more}
use Rattle.lfs_draft.proofs.walking.walk.Goals as goal

pub each-preserved : goal.each-preserved
each-preserved c = record {
  leads = leads_more c.args.directories.now c.each.here.pair c.in_ok-here.here.pair c.args.names.now c.each.name-index _
      c.each-test.true c.in_ok-here.ensures.there ∙ c.each.invariant.leads;
  refuses = refuses_more c.args.directories.now c.each.here.pair c.in_ok-here.here.pair c.args.names.now c.each.name-index _
      c.each-test.true c.in_ok-here.ensures.there ∙ c.each.invariant.refuses;
}
