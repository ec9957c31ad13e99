use Rattle.std.proofs.Common.{rules, ◌≡◌, ◌==◌, ◌&&◌, ◌++◌, true, length, List, ℕ, subst, ◌∙◌}
use Rattle.lfs_listing.specs.Difference.{difference}
use Rattle.lfs_listing.proofs.BufferLemmas.{IsUnderWay, all_goes}
use Rattle.lfs_listing.proofs.MergeLemmas.{all_told, next_fails, next_goes, next_told, none_differ}
use Rattle.lfs_listing.proofs.UnsentLemmas.{failed, refused, same_error}
use Rattle.lfs_listing.proofs.differing.send_merged.Goals as goal

pub returns-in_err-append_next-clause-sent : goal.returns-in_err-append_next-clause-sent
returns-in_err-append_next-clause-sent g c = refused c.from_residual.result _ _ _ _ _ c.from_residual.ensures.1 c.rows.invariant.under_way

pub rows-preserved : goal.rows-preserved
rows-preserved g c = record {
  under_way = next_goes _ _ _ _ _ _ _ _ _ c.rows.invariant.under_way c.in_ok-append_next.ensures.text c.in_ok-send_if_full.ensures.sent;
  told = next_told (g.S.Sink.sent c.rows.out) (g.S.Sink.sent c.send_if_full.new.out) c.rows.differs c.is_told-differs.result _ _ _
      c.deref-in-rows.result.now _ _ _ c.rows.invariant.told c.in_ok-append_next.ensures.text c.in_ok-send_if_full.ensures.sent
      c.is_told-differs.ensures c.deref-in-rows.ensures.value;
  first = c.in_ok-append_next.ensures.first;
  second = c.in_ok-append_next.ensures.second;
  works = c.in_ok-send_if_full.ensures.failed;
  kept = c.in_ok-send_if_full.ensures.kept ∙ c.rows.invariant.kept;
}

pub returns-in_err-send_if_full-clause-sent : goal.returns-in_err-send_if_full-clause-sent
returns-in_err-send_if_full-clause-sent g c =
    next_fails c.from_residual-in_err-send_if_full.result (g.S.Sink.sent c.args.out.now) (g.S.Sink.sent c.rows.out)
    (g.S.Sink.sent c.send_if_full.new.out) c.rows.text.items (difference c.args.form c.args.images.now.0 c.rows.first c.args.images.now.1 c.rows.second)
    c.append_next.new.text.items (difference c.args.form c.args.images.now.0 c.append_next.new.first c.args.images.now.1 c.append_next.new.second)
    (c.args.text.items ++ difference c.args.form c.args.images.now.0 c.args.first.now c.args.images.now.1 c.args.second.now) c.rows.invariant.under_way
    c.in_ok-append_next.ensures.text
    (same_error _ _ _ c.from_residual-in_err-send_if_full.ensures.1 c.in_err-send_if_full.ensures.sent.0) c.in_err-send_if_full.ensures.sent.1

pub returns-in_err-send_rest-clause-sent : goal.returns-in_err-send_rest-clause-sent
returns-in_err-send_rest-clause-sent g c =
    failed c.from_residual-in_err-send_rest.result _ _ _ _ _ _
    (same_error _ _ _ c.from_residual-in_err-send_rest.ensures.1 c.in_err-send_rest.ensures.sent.0) c.rows.invariant.under_way
    c.in_err-send_rest.ensures.sent.1

pub returns-clause-sent : goal.returns-clause-sent
returns-clause-sent g c =
    let done : (length c.rows.first == 0 && length c.rows.second == 0) ≡ true = search rules in
    let at_end = subst (λ (rest : List ℕ). IsUnderWay (g.S.Sink.sent c.args.out.now) (g.S.Sink.sent c.rows.out) c.rows.text.items rest
    (c.args.text.items ++ difference c.args.form c.args.images.now.0 c.args.first.now c.args.images.now.1 c.args.second.now))
    (none_differ c.args.form c.args.images.now.0 c.args.images.now.1 c.rows.first c.rows.second done) c.rows.invariant.under_way in
    all_goes _ _ _ _ _ at_end c.in_ok-send_rest.ensures.sent

pub returns-clause-differs : goal.returns-clause-differs
returns-clause-differs g c =
    let done : (length c.rows.first == 0 && length c.rows.second == 0) ≡ true = search rules in
    all_told c.rows.differs c.rows.text.items _ _ c.rows.invariant.told
    (none_differ c.args.form c.args.images.now.0 c.args.images.now.1 c.rows.first c.rows.second done)
