-- The blocks of each entry are marked.
use Rattle.std.proofs.Common.{ap, ◌∙◌}
use Rattle.lfs_meta.specs.Entry.{StoredEntry}
use Rattle.lfs_survey.specs.Lone.{body_pairs, marked_by}
use Rattle.lfs_survey.proofs.LoneLemmas.{entries_marked}
use Rattle.lfs_survey.proofs.lone_pairs.mark_entries.Goals as goal

pub each-preserved : goal.each-preserved
each-preserved c =
    entries_marked c.args.table.now c.each.table c.mark_body.new.table c.each.entry-index c.args.entries.now c.entry-item.result
    c.each-test.true c.entry-item.is c.each.invariant
    (c.mark_body.ensures ∙ ap (λ (e : StoredEntry). marked_by c.each.table (body_pairs e.body)) c.entry.view_is)
