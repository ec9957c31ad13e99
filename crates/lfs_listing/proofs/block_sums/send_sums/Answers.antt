use Rattle.std.proofs.Common.{◌≡◌, ◌++◌, ◌∙◌, Bor, List, None, Some, ap, map, subst, sym, ℕ}
use Rattle.lfs_meta.specs.Name.{Name}
use Rattle.lfs_fs.specs.Listed.{Listed, path_after, row_after, rows_after, rows_listed}
use Rattle.lfs_fs.specs.Path.{Path}
use Rattle.lfs_listing.specs.BlockSums.{sum_line}
use Rattle.lfs_listing.specs.Summing.{sum_lines}
use Rattle.lfs_listing.proofs.BufferLemmas.{IsUnderWay, front_goes}
use Rattle.lfs_listing.proofs.SumLemmas.{last_waits, sum_waits}
use Rattle.lfs_listing.proofs.UnsentLemmas.{refused, failed, same_error, ends}
use Rattle.lfs_listing.proofs.block_sums.send_sums.Goals as goal

-- the names of a path
abbrev names : List (Bor Name) → Path
names path = map (λ (n : Bor Name). n.now) path

pub returns-in_err-follow_row-clause-sent : goal.returns-in_err-follow_row-clause-sent
returns-in_err-follow_row-clause-sent g c = refused c.from_residual.result _ _ _ _ _ c.from_residual.ensures.1 c.loop-row.invariant.under_way

pub returns-in_err-append_sum-clause-sent : goal.returns-in_err-append_sum-clause-sent
returns-in_err-append_sum-clause-sent g c =
    refused c.from_residual-in_err-append_sum.result _ _ _ _ _ c.from_residual-in_err-append_sum.ensures.1 c.loop-row.invariant.under_way

pub returns-in_err-send_if_full-clause-sent : goal.returns-in_err-send_if_full-clause-sent
returns-in_err-send_if_full-clause-sent g c =
    let q : Path = names c.loop-row.path.items in
    let x : Listed = c.in-Some.row in
    let line : c.append_sum.new.text.items ≡ c.loop-row.text.items ++ sum_line c.args.form (Some (row_after q x)) c.first_of-sum.result.0 =
    c.in_ok-append_sum.ensures ∙ ap (λ (p : Path). c.loop-row.text.items
    ++ sum_line c.args.form (Some (record { path = p; entry = x.entry })) c.first_of-sum.result.0)
    (ap names c.deref.ensures.value ∙ c.in_ok-follow_row.ensures) in
    let h = sum_waits c.args.form (g.S.Sink.sent c.args.out.now) (g.S.Sink.sent c.loop-row.out) q c.loop-row.row-iterator c.next.new.self x
    c.loop-row.left.now c.first_of-sum.result.1.now c.loop-row.text.items c.append_sum.new.text.items (sum_line c.args.form None c.args.untaken)
    (sum_lines c.args.form (rows_listed c.args.rows) c.args.sums.now ++ sum_line c.args.form None c.args.untaken) c.first_of-sum.result.0
    c.loop-row.invariant.under_way c.in-Some.ensures.steps line c.first_of-sum.ensures.first c.first_of-sum.ensures.later in
    failed c.from_residual-in_err-send_if_full.result _ _ _ _ _ _
    (same_error _ _ _ c.from_residual-in_err-send_if_full.ensures.1 c.in_err-send_if_full.ensures.sent.0) h c.in_err-send_if_full.ensures.sent.1

pub loop-row-preserved : goal.loop-row-preserved
loop-row-preserved g c =
    let q : Path = names c.loop-row.path.items in
    let x : Listed = c.in-Some.row in
    let next : names c.follow_row.new.path.items ≡ path_after q x.depth x.entry.name = c.in_ok-follow_row.ensures in
    let line : c.append_sum.new.text.items ≡ c.loop-row.text.items ++ sum_line c.args.form (Some (row_after q x)) c.first_of-sum.result.0 =
    c.in_ok-append_sum.ensures ∙ ap (λ (p : Path). c.loop-row.text.items
    ++ sum_line c.args.form (Some (record { path = p; entry = x.entry })) c.first_of-sum.result.0)
    (ap names c.deref.ensures.value ∙ next) in
    let last : List ℕ = sum_line c.args.form None c.args.untaken in
    let complete : List ℕ = sum_lines c.args.form (rows_listed c.args.rows) c.args.sums.now ++ last in
    let h = sum_waits c.args.form (g.S.Sink.sent c.args.out.now) (g.S.Sink.sent c.loop-row.out) q c.loop-row.row-iterator c.next.new.self x
    c.loop-row.left.now c.first_of-sum.result.1.now c.loop-row.text.items c.append_sum.new.text.items last complete c.first_of-sum.result.0
    c.loop-row.invariant.under_way c.in-Some.ensures.steps line c.first_of-sum.ensures.first c.first_of-sum.ensures.later in
    record {
      under_way = subst (λ (p : Path). IsUnderWay (g.S.Sink.sent c.args.out.now) (g.S.Sink.sent c.send_if_full.new.out)
          c.send_if_full.new.text.items (sum_lines c.args.form (rows_after p c.next.new.self) c.first_of-sum.result.1.now ++ last) complete) (sym next)
          (front_goes _ _ _ _ _ _ _ h c.in_ok-send_if_full.ensures.sent);
      works = c.in_ok-send_if_full.ensures.failed;
      kept = c.in_ok-send_if_full.ensures.kept ∙ c.loop-row.invariant.kept;
    }

pub returns-in_err-append_untaken-clause-sent : goal.returns-in_err-append_untaken-clause-sent
returns-in_err-append_untaken-clause-sent g c =
    refused c.from_residual-in_err-append_untaken.result _ _ _ _ _ c.from_residual-in_err-append_untaken.ensures.1 c.loop-row.invariant.under_way

pub returns-clause-sent : goal.returns-clause-sent
returns-clause-sent g c =
    let last : List ℕ = sum_line c.args.form None c.args.untaken in
    let complete : List ℕ = sum_lines c.args.form (rows_listed c.args.rows) c.args.sums.now ++ last in
    ends c.send_rest.result _ _ _ _ complete
    (last_waits c.args.form (g.S.Sink.sent c.args.out.now) (g.S.Sink.sent c.loop-row.out) (names c.loop-row.path.items) c.loop-row.row-iterator
    c.loop-row.left.now c.loop-row.text.items c.append_untaken.new.text.items last complete c.loop-row.invariant.under_way c.in-None.ensures.steps.0
    c.in_ok-append_untaken.ensures) c.send_rest.ensures.sent
