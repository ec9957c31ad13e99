use Rattle.std.proofs.Common.{◌<◌, None, get_or, length, refl, subst, sym, ℕ}
use Rattle.std.specs.Prelude.{IfSome}
use Rattle.lfs_listing.proofs.CountingLemmas.{counted_more, counted_none, few_more}
use Rattle.lfs_listing.proofs.counting.count_each.Goals as goal

pub each-init : goal.each-init
each-init c = counted_none (length c.args.counts.now) c.args.counts.now refl c.requires.none

pub count-requires-clause-within : goal.count-requires-clause-within
count-requires-clause-within c =
    subst (λ (n : ℕ). IfSome (get_or c.args.users.now c.each.user-index None) (λ row. row < n)) (sym c.each.auto.counts)
    (c.requires.within c.each.user-index None c.each-test.true)

pub count-requires-clause-few : goal.count-requires-clause-few
count-requires-clause-few c =
    few_more c.args.users.now c.each.user-index (length c.args.counts.now) c.each.counts (get_or c.args.users.now c.each.user-index None)
    c.each-test.true c.requires.few c.each.invariant

pub each-preserved : goal.each-preserved
each-preserved c =
    counted_more c.args.users.now c.each.user-index (length c.args.counts.now) c.each.counts c.count.new.counts
    (get_or c.args.users.now c.each.user-index None) c.each-test.true refl
    (subst (λ (n : ℕ). IfSome (get_or c.args.users.now c.each.user-index None) (λ row. row < n)) (sym c.each.auto.counts)
    (c.requires.within c.each.user-index None c.each-test.true))
    c.count.ensures c.each.invariant
