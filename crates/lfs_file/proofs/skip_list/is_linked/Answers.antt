use Rattle.std.proofs.Common.{◌≡◌, false, arith, sym}
use Rattle.lfs_file.specs.SkipList.{is_linked_at}
use Rattle.lfs_file.proofs.SkipListLemmas.{linked-from, linked-false}
use Rattle.lfs_file.proofs.skip_list.is_linked.Goals as goal

pub returns-then-not-is_linked_at : goal.returns-then-not-is_linked_at
returns-then-not-is_linked_at g c =
    let fails : is_linked_at (g.B.Blocks.disk c.args.blocks.now) c.args.chain.now c.loop-n.n ≡ false = cc in
    sym (linked-false (g.B.Blocks.disk c.args.blocks.now) c.args.chain.now c.loop-n.n (omega arith) fails)

pub returns : goal.returns
returns g c =
    sym (linked-from (g.B.Blocks.disk c.args.blocks.now) c.args.chain.now (λ n lt. c.loop-n.invariant n (omega (arith, lt))))
