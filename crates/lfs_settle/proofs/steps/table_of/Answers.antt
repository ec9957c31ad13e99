-- One pair more before those after it.
use Rattle.std.proofs.Common.{◌≡◌, ℕ, suc, ◌-◌, ◌<◌, ◌≤◌, List, ◌∷◌, length, drop, drop-cons, get_or, sym, subst, arith}
use Rattle.lfs_meta.specs.Body.{Pair}
use Rattle.lfs_settle.specs.Steps.{FindsFirst}
use Rattle.lfs_settle.proofs.FirstWith.{finds_more}
use Rattle.lfs_settle.proofs.steps.table_of.Goals as goal

-- the pairs from a place on
from_place : (named : List Pair) (index : ℕ) → 0 < index → index ≤ length named
    → drop (index - 1) named ≡ get_or named (index - 1) (0, 0) ∷ drop index named
from_place named index some within =
    let next : suc (index - 1) ≡ index = omega arith in
    subst (λ (n : ℕ). drop (index - 1) named ≡ get_or named (index - 1) (0, 0) ∷ drop n named) next
    (drop-cons named (index - 1) (0, 0) (omega arith))

pub loop-index-preserved : goal.loop-index-preserved
loop-index-preserved c =
    let named : List Pair = c.args.named.now in
    let index : ℕ = c.loop-index.index in
    let p : Pair = get_or named (index - 1) (0, 0) in
    let more : FindsFirst (p ∷ drop index named) c.insert-in-loop-index.new.self.entries =
    finds_more p (drop index named) c.loop-index.table.entries c.insert.new.self.entries c.insert-in-loop-index.new.self.entries
    c.loop-index.invariant.finds c.in_ok-insert.ensures.updates.0 c.in_ok-insert-2.ensures.updates.0 in
    record {
      within = omega (arith, c.loop-index.invariant.within);
      finds = subst (λ (ps : List Pair). FindsFirst ps c.insert-in-loop-index.new.self.entries)
          (sym (from_place named index (omega (arith, c.loop-index-test.true)) c.loop-index.invariant.within)) more;
    }
