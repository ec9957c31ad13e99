use Rattle.std.proofs.Common.{ℕ, List, cond, ◌≡◌, ◌+◌, ◌-◌, ◌<◌, arith, sym, ◌∙◌, ap, reverse, ◌++◌, ◌∷◌, [], is_ok, true, Bool}
use Rattle.std.proofs.lemmas.List.Elements.{All-push, All-same}
use Rattle.std.proofs.lemmas.Bool.{cond-true}
use Rattle.lfs_block.specs.Disk.{block_of}
use Rattle.lfs_file.specs.Pointer.{pointer}
use Rattle.lfs_file.specs.SkipList.{walk}
use Rattle.lfs_file.proofs.WalkLemmas.{walk-more, walk-past, walk-none}
use Rattle.lfs_file.proofs.skip_list.walk_back.Goals as goal

pub returns-then-block-count-clause-refused : goal.returns-then-block-count-clause-refused
returns-then-block-count-clause-refused g c =
    walk-past (g.B.Blocks.disk c.args.blocks.now) c.args.head c.args.count c.loop.block (c.args.count - c.loop.counter)
    (c.args.count - (c.loop.counter + 1)) (reverse c.loop.chain.items)
    (omega arith) c.loop.invariant.complete (omega arith)

pushed_when : (ok : Bool) (old new : List ℕ) (last : ℕ) → new ≡ cond ok (old ++ last ∷ []) old → ok ≡ true → new ≡ old ++ last ∷ []
pushed_when ok old new last is passed = is ∙ cond-true ok (old ++ last ∷ []) old passed

first_of : (p : ℕ) (bytes block : List ℕ) → p ≡ pointer bytes 0 → bytes ≡ block → pointer block 0 ≡ p
first_of p bytes block is same = sym (is ∙ ap (λ b. pointer b 0) same)

pub loop-preserved : goal.loop-preserved
loop-preserved g c =
    let d = g.B.Blocks.disk c.args.blocks.now in
    let items = c.loop.chain.items in
    let left = c.args.count - (c.loop.counter + 1) in
    let ok : is_ok c.push.result ≡ true = ◌∙◌ {A = Bool} (sym c.map_err-in-loop.ensures.variant) (ap is_ok c.in_ok-map_err.was) in
    let pushed : c.push.new.self.items ≡ items ++ c.loop.block ∷ [] = pushed_when
    (is_ok c.push.result) items c.push.new.self.items c.loop.block c.push.ensures.items ok in
    let before : pointer (block_of d c.loop.block) 0 ≡ c.pointer_at-block.result =
    first_of _ _ _ c.pointer_at-block.ensures c.block.ensures in
    record {
      complete = walk-more d c.loop.block (c.args.count - c.loop.counter) left c.pointer_at-block.result items c.push.new.self.items
          (walk d c.args.head c.args.count) (omega arith) before pushed c.loop.invariant.complete;
      below = All-same (λ b. b < d.count) c.push.new.self.items (items ++ c.loop.block ∷ []) pushed
          (All-push (λ b. b < d.count) items c.loop.block c.loop.invariant.below (omega arith));
    }

pub returns-clause-found : goal.returns-clause-found
returns-clause-found g c =
    c.reverse.ensures.items
    ∙ sym (c.loop.invariant.complete ∙ walk-none (g.B.Blocks.disk c.args.blocks.now) c.loop.block (c.args.count - c.loop.counter)
    (reverse c.loop.chain.items) (omega arith))
