-- Each row takes what its path does; nothing has gone out where memory is refused before the first line.
use Rattle.std.proofs.Common.{◌≡◌, ◌++◌, ◌∙◌, ◌<◌, List, None, Some, ap, arith, flat_map, get_or, length, map, subst, sym, ℕ}
use Rattle.std.specs.Prelude.{IfSome, count_by, is_none, sum}
use Rattle.std.specs.Result.{result_err}
use Rattle.std.proofs.lemmas.List.{length-map}
use Rattle.lfs_fs.specs.Listed.{rows_listed}
use Rattle.lfs_fs.specs.Row.{Row}
use Rattle.lfs_fs.specs.Sound.{IsSound}
use Rattle.lfs_listing.specs.BlockMap.{block_users}
use Rattle.lfs_listing.specs.BlockSums.{block_sums, sum_line, taken}
use Rattle.lfs_listing.specs.Summing.{AreCounts, depth_sum, sum_lines}
use Rattle.lfs_listing.specs.Unsent.{SendsListing}
use Rattle.lfs_listing.proofs.BufferLemmas.{under_way}
use Rattle.lfs_listing.proofs.CountingLemmas.{sum_le}
use Rattle.lfs_listing.proofs.SumLemmas.{deep, lines_of_rows, sums_are_taken, users_within}
use Rattle.lfs_listing.proofs.UnsentLemmas.{refused}
use Rattle.lfs_listing.proofs.block_sums.send_block_sums.Goals as goal

pub users_with_depths-requires : goal.users_with_depths-requires
users_with_depths-requires g c =
    let is = c.requires.mounted.1 in
    subst IsSound (sym is.outline) (c.outlines_are_sound.ensures is.volume is.sound)

pub returns-in_err-users-clause-sent : goal.returns-in_err-users-clause-sent
returns-in_err-users-clause-sent g c =
    refused c.from_residual.result _ _ _ _ _ c.from_residual.ensures.1 (under_way (g.S.Sink.sent c.args.out.now) _)

pub counts_of-requires-clause-within : goal.counts_of-requires-clause-within
counts_of-requires-clause-within g c =
    let m = c.args.mounted.now in
    let long : length m.rows ≡ c.len.result =
    omega (arith, c.len.ensures, c.in_ok-users.depths.ok, ap length c.in_ok-users.ensures.depths, length-map m.rows deep) in
    let users' = users_within m.outline m.rows c.deref.result.now (c.deref.ensures.value ∙ c.in_ok-users.ensures.users) in
    λ k d within. subst (λ (n : ℕ). IfSome (get_or c.deref.result.now k d) (λ row. row < n)) long (users' k d within)

pub returns-in_err-counts-clause-sent : goal.returns-in_err-counts-clause-sent
returns-in_err-counts-clause-sent g c =
    refused c.from_residual-in_err-counts.result _ _ _ _ _ c.from_residual-in_err-counts.ensures.1 (under_way (g.S.Sink.sent c.args.out.now) _)

pub sums_of-requires-clause-few : goal.sums_of-requires-clause-few
sums_of-requires-clause-few g c =
    let few = sum_le c.deref.result.now c.len.result c.in_ok-counts.counts.items c.in_ok-counts.ensures in
    omega (arith, few, ap sum c.deref-3.ensures.value, c.in_ok-users.ensures.few, ap length c.deref.ensures.value)

pub returns-in_err-sums-clause-sent : goal.returns-in_err-sums-clause-sent
returns-in_err-sums-clause-sent g c =
    refused c.from_residual-in_err-sums.result _ _ _ _ _ c.from_residual-in_err-sums.ensures.1 (under_way (g.S.Sink.sent c.args.out.now) _)

pub returns-clause-sent : goal.returns-clause-sent
returns-clause-sent g c =
    let m = c.args.mounted.now in
    let us = c.deref.result.now in
    let users' : us ≡ block_users m.outline m.rows = c.deref.ensures.value ∙ c.in_ok-users.ensures.users in
    let depths : c.deref-2.result.now ≡ map deep m.rows = c.deref-2.ensures.value ∙ c.in_ok-users.ensures.depths in
    let many : length c.deref-2.result.now ≡ length m.rows = ap length depths ∙ length-map m.rows deep in
    let long : c.len.result ≡ length m.rows =
    omega (arith, c.len.ensures, c.in_ok-users.depths.ok, ap length c.in_ok-users.ensures.depths, length-map m.rows deep) in
    let counts : AreCounts us (length m.rows) c.deref-3.result.now =
    subst (λ (cs : List ℕ). AreCounts us (length m.rows) cs) (sym c.deref-3.ensures.value)
    (subst (λ (n : ℕ). AreCounts us n c.in_ok-counts.counts.items) long c.in_ok-counts.ensures) in
    let sums : c.in_ok-sums.sums.items ≡ map (λ (r : Row). taken m.outline m.rows r.path) m.rows =
    sums_are_taken m.outline c.rows.result m.rows us c.deref-3.result.now c.in_ok-sums.sums.items c.rows.ensures c.requires.mounted.1.rows.rise users'
    counts (c.in_ok-sums.ensures.len ∙ many) (λ i within.
    c.in_ok-sums.ensures.sums i (omega (arith, many, within))
    ∙ ap (λ (ds : List ℕ). depth_sum ds c.deref-3.result.now i) depths) in
    let text : sum_lines c.args.form (rows_listed c.rows.result) c.deref-4.result.now ++ sum_line c.args.form None c.untaken_of.result
    ≡ block_sums c.args.form m.outline m.rows =
    ap (λ (rs : List Row). sum_lines c.args.form rs c.deref-4.result.now ++ sum_line c.args.form None c.untaken_of.result) c.rows.ensures
    ∙ ap (λ (ns : List ℕ). sum_lines c.args.form m.rows ns ++ sum_line c.args.form None c.untaken_of.result) (c.deref-4.ensures.value ∙ sums)
    ∙ ap (λ (xs : List ℕ). xs ++ sum_line c.args.form None c.untaken_of.result) (lines_of_rows c.args.form (λ (r : Row). taken m.outline m.rows r.path) m.rows)
    ∙ ap (λ (n : ℕ). flat_map (λ (r : Row). sum_line c.args.form (Some r) (taken m.outline m.rows r.path)) m.rows ++ sum_line c.args.form None n)
    (c.untaken_of.ensures ∙ ap (count_by is_none) (c.deref-5.ensures.value ∙ c.in_ok-users.ensures.users)) in
    subst (λ (xs : List ℕ). SendsListing (result_err c.send_sums.result) (g.S.Sink.sent c.args.out.now) (g.S.Sink.sent c.send_sums.new.out) xs) text
    c.send_sums.ensures.sent
