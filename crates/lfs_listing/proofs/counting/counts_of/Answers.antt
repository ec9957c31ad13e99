use Rattle.std.proofs.Common.{◌≡◌, List, ap, arith, length, subst, sym, ℕ}
use Rattle.lfs_listing.specs.Summing.{AreCounts}
use Rattle.lfs_listing.proofs.FlatLemmas.{written}
use Rattle.lfs_listing.proofs.counting.counts_of.Goals as goal

pub returns : goal.returns
returns c =
    let counts = c.in_ok-counts.counts in
    let same : length c.deref_mut.result.now ≡ length counts.items = ap (λ (ns : List ℕ). length ns) c.deref_mut.ensures.value in
    let rows : length c.deref_mut.result.now ≡ c.args.rows = omega (arith, same, counts.ok.0, c.in_ok-counts.ensures.len) in
    subst (λ (ns : List ℕ). AreCounts c.args.users.now c.args.rows ns)
    (sym (written counts.items c.count_each.new.counts counts.len counts.ok.0 (omega (arith, c.count_each.auto.counts, same))))
    (subst (λ (n : ℕ). AreCounts c.args.users.now n c.count_each.new.counts) rows c.count_each.ensures)
