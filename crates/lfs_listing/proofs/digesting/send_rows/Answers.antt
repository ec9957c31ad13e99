-- The next row can be read, and so can those behind it.
use Rattle.std.proofs.Common.{List, Bor, map, subst, sym, ◌∙◌}
use Rattle.lfs_block.specs.Disk.{Disk}
use Rattle.lfs_meta.specs.Name.{Name}
use Rattle.lfs_fs.specs.Path.{Path}
use Rattle.lfs_fs.specs.Listed.{Listed, rows_after, rows_listed}
use Rattle.lfs_listing.specs.Below.{digests_at, names}
use Rattle.lfs_listing.specs.Comparing.{AreComplete}
use Rattle.lfs_listing.specs.Digests.{digested_text}
use Rattle.lfs_listing.proofs.BufferLemmas.{IsUnderWay}
use Rattle.lfs_listing.proofs.DigestLemmas.{next_complete}
use Rattle.lfs_listing.proofs.RowLemmas.{row_waits, row_goes}
use Rattle.lfs_listing.proofs.UnsentLemmas.{refused, failed, same_error, ends}
use Rattle.lfs_listing.proofs.digesting.send_rows.Goals as goal

pub append_digested_row-requires : goal.append_digested_row-requires
append_digested_row-requires g c =
    (next_complete (g.A.Blocks.disk c.args.disk.now) _ _ _ c.in-Some.row c.loop-row.invariant.complete c.in-Some.ensures.steps).0

pub returns-in_err-append_digested_row-clause-sent : goal.returns-in_err-append_digested_row-clause-sent
returns-in_err-append_digested_row-clause-sent g c =
    refused c.from_residual.result _ _ _ _ _ c.from_residual.ensures.1 c.loop-row.invariant.under_way

pub loop-row-preserved : goal.loop-row-preserved
loop-row-preserved g c =
    let d : Disk = g.A.Blocks.disk c.args.disk.now in
    let later = (next_complete d _ _ _ c.in-Some.row c.loop-row.invariant.complete c.in-Some.ensures.steps).1 in
    record {
      under_way = row_goes (digested_text c.args.form d) (names c.args.at.now) _ _ _ _ _ _ _ c.in-Some.row _ _ _ _ c.loop-row.invariant.under_way
          c.in-Some.ensures.steps c.in_ok-append_digested_row.ensures.lines c.in_ok-append_digested_row.ensures.path
          c.in_ok-send_if_full.ensures.sent;
      complete = subst (λ (p : Path). AreComplete d (rows_after p c.next.new.self)) (sym c.in_ok-append_digested_row.ensures.path) later;
      works = c.in_ok-send_if_full.ensures.failed;
      kept = c.in_ok-send_if_full.ensures.kept ∙ c.loop-row.invariant.kept;
    }

pub returns-in_err-send_if_full-clause-sent : goal.returns-in_err-send_if_full-clause-sent
returns-in_err-send_if_full-clause-sent g c =
    let h = row_waits (digested_text c.args.form (g.A.Blocks.disk c.args.disk.now)) (names c.args.at.now) _ _ _ _ _ c.in-Some.row _ _ _
    c.loop-row.invariant.under_way c.in-Some.ensures.steps c.in_ok-append_digested_row.ensures.lines in
    failed c.from_residual-in_err-send_if_full.result _ _ _ _ _ _
    (same_error _ _ _ c.from_residual-in_err-send_if_full.ensures.1 c.in_err-send_if_full.ensures.sent.0) h c.in_err-send_if_full.ensures.sent.1

pub returns-clause-sent : goal.returns-clause-sent
returns-clause-sent g c =
    let d : Disk = g.A.Blocks.disk c.args.disk.now in
    let q : Path = map (λ (n : Bor Name). n.now) c.loop-row.path.items in
    let at_end = subst (λ (xs : List Listed). IsUnderWay (g.S.Sink.sent c.args.out.now) (g.S.Sink.sent c.loop-row.out) c.loop-row.text.items
    (digests_at c.args.form d (names c.args.at.now) (rows_after q xs)) (digests_at c.args.form d (names c.args.at.now) (rows_listed c.args.rows)))
    c.in-None.ensures.steps.0 c.loop-row.invariant.under_way in
    ends c.send_rest.result _ _ _ _ _ at_end c.send_rest.ensures.sent
