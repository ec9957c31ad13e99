use Rattle.std.proofs.Common.{◌∙◌, ap}
use Rattle.lfs_fs.specs.Listed.{rows_listed}
use Rattle.lfs_listing.specs.Inlined.{greater, longest}
use Rattle.lfs_listing.proofs.InlinedLemmas.{longest_next, longest_last}
use Rattle.lfs_listing.proofs.inlined.longest_inline.Goals as goal

pub loop-row-preserved : goal.loop-row-preserved
loop-row-preserved c =
    longest_next c.loop-row.longest c.greater-longest.result (longest (rows_listed c.args.rows)) c.loop-row.row-iterator c.next.new.self c.in-Some.row
    c.loop-row.invariant c.in-Some.ensures.steps (c.greater-longest.ensures ∙ ap (greater c.loop-row.longest) c.in_entry.ensures)

pub returns : goal.returns
returns c = longest_last c.loop-row.longest (longest (rows_listed c.args.rows)) c.loop-row.row-iterator c.loop-row.invariant c.in-None.ensures.steps.0
