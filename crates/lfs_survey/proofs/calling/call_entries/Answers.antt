-- The pairs of each entry are added.
use Rattle.std.proofs.Common.{◌++◌, ap, ◌∙◌}
use Rattle.lfs_meta.specs.Entry.{StoredEntry}
use Rattle.lfs_survey.specs.Calls.{body_calls}
use Rattle.lfs_survey.specs.declared.way.Way.TheVariants.{Entry}
use Rattle.lfs_survey.proofs.CallingLemmas.{called_more}
use Rattle.lfs_survey.proofs.calling.call_entries.Goals as goal

pub each-preserved : goal.each-preserved
each-preserved c =
    called_more c.args.from c.each.index c.args.calls.now.items c.each.calls.items c.call_body.new.calls.items c.args.entries.now
    c.index-entries-index.result c.each-test.true c.index-entries-index.is c.each.invariant
    (c.in_ok-call_body.ensures
    ∙ ap (λ (e : StoredEntry). c.each.calls.items ++ body_calls (Entry c.args.from c.each.index) e.body) c.entry.view_is)
