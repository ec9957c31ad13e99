use Rattle.std.proofs.Common.{◌≡◌, ◌+◌, ◌-◌, ◌≤◌, ℕ, List, ap, drop, length, sym, subst, ◌∙◌}
use Rattle.lfs_find.specs.Sizes.{log_size, sizes_from, with_size}
use Rattle.lfs_find.proofs.SizesLemmas.{few_more, looked_more, passed_more}
use Rattle.lfs_find.proofs.sizes.sizes_stated.Goals as goal

pub loop-at-preserved-then-not-has_log : goal.loop-at-preserved-then-not-has_log
loop-at-preserved-then-not-has_log c = record {
  same = passed_more c.args.bytes.now c.loop-at.at c.loop-at.spent c.loop-at.sizes.items c.loop-at-test.true
      (sym c.has_log.ensures ∙ c.if-not-has_log.true) ∙ c.loop-at.invariant.same;
  few = c.loop-at.invariant.few;
}

pub loop-at-preserved : goal.loop-at-preserved
loop-at-preserved c =
    let sizes : c.add_size.new.sizes.items ≡ with_size c.loop-at.sizes.items (log_size (drop c.loop-at.at c.args.bytes.now)) =
    c.in_ok-add_size.ensures ∙ ap (with_size c.loop-at.sizes.items) (c.log_size.ensures ∙ ap log_size c.split_at.ensures.back) in
    record {
      same = ap (sizes_from c.args.bytes.now (length c.args.bytes.now - (c.loop-at.at + 1)) (c.loop-at.spent + 1)) sizes
          ∙ looked_more c.args.bytes.now c.loop-at.at c.loop-at.spent c.loop-at.sizes.items c.loop-at-test.true
          (sym c.has_log.ensures ∙ c.if-not-has_log.false) ∙ c.loop-at.invariant.same;
      few = subst (λ (l : List ℕ). length l ≤ 16) (sym sizes)
          (few_more c.loop-at.sizes.items (log_size (drop c.loop-at.at c.args.bytes.now)) c.loop-at.invariant.few);
    }
