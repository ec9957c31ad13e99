use Rattle.std.proofs.Common.{List, ℕ, Bor, map, subst, ◌∙◌}
use Rattle.lfs_meta.specs.Name.{Name}
use Rattle.lfs_fs.specs.Path.{Path}
use Rattle.lfs_fs.specs.Listed.{Listed, rows_after, rows_listed}
use Rattle.lfs_fs.specs.Row.{Row}
use Rattle.lfs_listing.specs.Below.{listing_at, names}
use Rattle.lfs_listing.specs.Forms.{row_text}
use Rattle.lfs_listing.proofs.BufferLemmas.{IsUnderWay}
use Rattle.lfs_listing.proofs.RowLemmas.{row_waits, row_goes}
use Rattle.lfs_listing.proofs.UnsentLemmas.{refused, failed, same_error, ends}
use Rattle.lfs_listing.proofs.sending.send_listing.Goals as goal

pub returns-in_err-append_row-clause-sent : goal.returns-in_err-append_row-clause-sent
returns-in_err-append_row-clause-sent g c = refused c.from_residual.result _ _ _ _ _ c.from_residual.ensures.1 c.loop-row.invariant.under_way

pub loop-row-preserved : goal.loop-row-preserved
loop-row-preserved g c = record {
  under_way = row_goes (row_text c.args.form) (names c.args.at.now) _ _ _ _ _ _ _ c.in-Some.row _ _ _ _ c.loop-row.invariant.under_way
      c.in-Some.ensures.steps c.in_ok-append_row.ensures.lines c.in_ok-append_row.ensures.path c.in_ok-send_if_full.ensures.sent;
  works = c.in_ok-send_if_full.ensures.failed;
  kept = c.in_ok-send_if_full.ensures.kept ∙ c.loop-row.invariant.kept;
}

pub returns-in_err-send_if_full-clause-sent : goal.returns-in_err-send_if_full-clause-sent
returns-in_err-send_if_full-clause-sent g c =
    let h = row_waits (row_text c.args.form) (names c.args.at.now) _ _ _ _ _ c.in-Some.row _ _ _ c.loop-row.invariant.under_way
    c.in-Some.ensures.steps c.in_ok-append_row.ensures.lines in
    failed c.from_residual-in_err-send_if_full.result _ _ _ _ _ _
    (same_error _ _ _ c.from_residual-in_err-send_if_full.ensures.1 c.in_err-send_if_full.ensures.sent.0) h c.in_err-send_if_full.ensures.sent.1

pub returns-clause-sent : goal.returns-clause-sent
returns-clause-sent g c =
    let q : Path = map (λ (n : Bor Name). n.now) c.loop-row.path.items in
    let text : List Row → List ℕ = listing_at c.args.form (names c.args.at.now) in
    let at_end = subst (λ (xs : List Listed). IsUnderWay (g.S.Sink.sent c.args.out.now) (g.S.Sink.sent c.loop-row.out) c.loop-row.text.items
    (text (rows_after q xs)) (text (rows_listed c.args.rows))) c.in-None.ensures.steps.0 c.loop-row.invariant.under_way in
    ends c.send_rest.result _ _ _ _ _ at_end c.send_rest.ensures.sent
