use Rattle.std.proofs.Common.{◌<◌, ◌≤◌, ◌∙◌, arith, flat_map, length, sym}
use Rattle.lfs_listing.specs.BlockMap.{runs_from}
use Rattle.lfs_listing.specs.Using.{part_of_user, run_line}
use Rattle.lfs_listing.proofs.BufferLemmas.{front_goes}
use Rattle.lfs_listing.proofs.RunLemmas.{goes_within, on_more, run_waits, runs_done}
use Rattle.lfs_listing.proofs.UnsentLemmas.{refused, failed, same_error, ends}
use Rattle.lfs_listing.proofs.runs.send_runs.Goals as goal

pub returns-in_err-append_line-clause-sent : goal.returns-in_err-append_line-clause-sent
returns-in_err-append_line-clause-sent g c = refused c.from_residual.result _ _ _ _ _ c.from_residual.ensures.1 c.loop-block.invariant.under_way

pub returns-in_err-send_if_full-clause-sent : goal.returns-in_err-send_if_full-clause-sent
returns-in_err-send_if_full-clause-sent g c =
    let us = c.args.users.now in
    let parts = c.args.parts.now in
    let off = sym c.goes_on.ensures ∙ c.if-goes_on.false in
    let h = run_waits c.args.form (g.S.Sink.sent c.args.out.now) (g.S.Sink.sent c.loop-block.out) c.loop-block.text.items c.append_line.new.text.items
    (flat_map (run_line c.args.form (part_of_user c.args.form parts)) (runs_from 0 us)) (part_of_user c.args.form parts) us c.loop-block.first c.loop-block.block c.of_user.result.now
    c.loop-block.invariant.under_way c.loop-block.invariant.before c.loop-block-test.true c.loop-block.invariant.on off
    c.of_user.ensures c.in_ok-append_line.ensures in
    failed c.from_residual-in_err-send_if_full.result _ _ _ _ _ _
    (same_error _ _ _ c.from_residual-in_err-send_if_full.ensures.1 c.in_err-send_if_full.ensures.sent.0) h c.in_err-send_if_full.ensures.sent.1

pub loop-block-preserved-then-goes_on : goal.loop-block-preserved-then-goes_on
loop-block-preserved-then-goes_on g c =
    let on = sym c.goes_on.ensures ∙ c.if-goes_on.true in
    let h = c.loop-block.invariant in
    record {
      under_way = h.under_way;
      before = omega (arith, h.before);
      more = λ less. goes_within c.args.users.now c.loop-block.block on;
      on = on_more c.args.users.now c.loop-block.first c.loop-block.block h.on on;
      works = h.works;
      kept = h.kept;
    }

pub loop-block-preserved : goal.loop-block-preserved
loop-block-preserved g c =
    let us = c.args.users.now in
    let parts = c.args.parts.now in
    let off = sym c.goes_on.ensures ∙ c.if-goes_on.false in
    let h = run_waits c.args.form (g.S.Sink.sent c.args.out.now) (g.S.Sink.sent c.loop-block.out) c.loop-block.text.items c.append_line.new.text.items
    (flat_map (run_line c.args.form (part_of_user c.args.form parts)) (runs_from 0 us)) (part_of_user c.args.form parts) us c.loop-block.first c.loop-block.block c.of_user.result.now
    c.loop-block.invariant.under_way c.loop-block.invariant.before c.loop-block-test.true c.loop-block.invariant.on off
    c.of_user.ensures c.in_ok-append_line.ensures in
    record {
      under_way = front_goes _ _ _ _ _ _ _ h c.in_ok-send_if_full.ensures.sent;
      before = omega arith;
      more = λ less. absurd (omega arith);
      on = λ k from to. absurd (omega arith);
      works = c.in_ok-send_if_full.ensures.failed;
      kept = c.in_ok-send_if_full.ensures.kept ∙ c.loop-block.invariant.kept;
    }

pub returns-clause-sent : goal.returns-clause-sent
returns-clause-sent g c =
    let more' : c.loop-block.first < c.loop-block.block → c.loop-block.block < length c.args.users.now = c.loop-block.invariant.more in
    let over : length c.args.users.now ≤ c.loop-block.first = grind (arith, more', c.loop-block.invariant.before, c.loop-block-test.false) in
    ends c.send_rest.result _ _ _ _ _
    (runs_done c.args.form _ _ _ _ (part_of_user c.args.form c.args.parts.now) c.args.users.now c.loop-block.first over c.loop-block.invariant.under_way) c.send_rest.ensures.sent
