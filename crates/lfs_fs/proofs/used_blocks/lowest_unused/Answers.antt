use Rattle.std.proofs.Common.{◌≡◌, ◌+◌, ◌++◌, ◌-◌, ◌<◌, ℕ, List, false, [], ◌∷◌, length, take, drop, arith, ap, ◌∙◌, subst, sym}
use Rattle.std.proofs.lemmas.List.{length_push}
use Rattle.lfs_fs.specs.Unused.{unused, unused_from}
use Rattle.lfs_fs.proofs.UnusedLemmas.{lowest_more_used, lowest_more_unused, unused_below}
use Rattle.lfs_fs.proofs.used_blocks.lowest_unused.Goals as goal
use Rattle.lfs_fs.proofs.used_blocks.lowest_unused.Goals.{then-not-used-block+in_ok-push, else-not-used-block}

pub loop-block-init : goal.loop-block-init
loop-block-init c =
    let n = c.args.n in
    let rest = unused_from c.args.lowest (drop c.args.lowest c.args.used.now) in
    record {
      complete = subst (λ (bs : List ℕ). bs ++ take (n - length bs) rest ≡ take n (unused c.args.used.now)) (sym c.in_ok-found.ensures.items)
          (ap (λ (k : ℕ). take k rest) (omega arith) ∙ ap (take n) (unused_below c.args.used.now c.args.lowest c.requires.below));
      few = omega (arith, ap length c.in_ok-found.ensures.items);
    }

pub loop-block-preserved : goal.loop-block-preserved
loop-block-preserved c =
    let n = c.args.n in
    let i = c.loop-block.block in
    let flags = c.args.used.now in
    let old = c.loop-block.found.items in
    let new = c.if-not-used-block.found.items in
    let few : length old < n = omega arith in
    elim c.if-not-used-block.branch [
      | then-not-used-block+in_ok-push w ↦
          let is : new ≡ old ++ i ∷ [] = ap (λ v. v.items) w.found-is ∙ w.in_ok-push.ensures.items in
          record {
            complete = lowest_more_unused n i flags old new false c.loop-block-test.true w.if-not-used-block.true few is
                c.loop-block.invariant.complete;
            few = omega (arith, ap length is, length_push old i);
          }
      | else-not-used-block w ↦
          let is : old ≡ new = sym (ap (λ v. v.items) w.found-is) in
          let rest = unused_from (i + 1) (drop (i + 1) flags) in
          record {
            complete = subst (λ (bs : List ℕ). bs ++ take (n - length bs) rest ≡ take n (unused flags)) is
                (lowest_more_used n i flags old false c.loop-block-test.true w.if-not-used-block.false c.loop-block.invariant.complete);
            few = omega (arith, ap length is);
          }
    ]
