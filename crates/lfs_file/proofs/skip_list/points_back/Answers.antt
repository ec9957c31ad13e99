use Rattle.std.proofs.Common.{◌≡◌, ◌-◌, ◌*◌, ◌^◌, ◌%◌, ◌<◌, ◌≤◌, length, slice_index, arith, sym, ap, ◌∙◌}
use Rattle.lfs_block.specs.Disk.{block_of}
use Rattle.lfs_file.specs.Capacity.{pointers}
use Rattle.lfs_file.specs.Pointer.{pointer}
use Rattle.lfs_file.proofs.CapacityLemmas.{pointers_few}
use Rattle.lfs_block.proofs.BlockLens.{length-block}
use Rattle.lfs_file.proofs.PointerLemmas.{power_within, shifted_one}
use Rattle.lfs_file.proofs.SkipListLemmas.{later_at, points-from, points-false}
use Rattle.lfs_file.proofs.skip_list.points_back.Goals as goal

pub pointer_at-requires : goal.pointer_at-requires
pointer_at-requires g c =
    let d = g.B.Blocks.disk c.args.blocks.now in
    let few : pointers c.args.n ≤ 33 = pointers_few c.args.n in
    let complete : length (block_of d (slice_index c.args.chain.now c.args.n)) ≡ d.size =
    length-block d (slice_index c.args.chain.now c.args.n) c.requires.disk c.requires.below in
    omega (arith, few, complete, ap length c.block-block.ensures, c.requires.disk.geometry.size_fits.0)

pub overflow_sub-n : goal.overflow_sub-n
overflow_sub-n g c =
    let lt : c.loop-i.i < pointers c.args.n = omega arith in
    let small : c.args.n < 2 ^ 32 = omega arith in
    let within : 2 ^ c.loop-i.i ≤ c.args.n = power_within c.args.n c.loop-i.i (later_at c.args.n c.loop-i.i lt) small lt in
    let same : 1 * 2 ^ c.loop-i.i % 2 ^ 64 ≡ 2 ^ c.loop-i.i = shifted_one c.args.n c.loop-i.i within small in
    omega arith

pub returns-then-pointer_at-chain : goal.returns-then-pointer_at-chain
returns-then-pointer_at-chain g c =
    let d = g.B.Blocks.disk c.args.blocks.now in
    let lt : c.loop-i.i < pointers c.args.n = omega arith in
    let small : c.args.n < 2 ^ 32 = omega arith in
    let within : 2 ^ c.loop-i.i ≤ c.args.n = power_within c.args.n c.loop-i.i (later_at c.args.n c.loop-i.i lt) small lt in
    let same : 1 * 2 ^ c.loop-i.i % 2 ^ 64 ≡ 2 ^ c.loop-i.i = shifted_one c.args.n c.loop-i.i within small in
    sym (points-false d c.args.chain.now c.args.n c.loop-i.i lt (λ here.
    c.if-pointer_at-chain.true
    (c.pointer_at.ensures ∙ ap (λ b. pointer b c.loop-i.i) c.block-block.ensures ∙ here
    ∙ ap (λ p. slice_index c.args.chain.now (c.args.n - p)) (sym same))))

pub returns : goal.returns
returns g c =
    let d = g.B.Blocks.disk c.args.blocks.now in
    sym (points-from d c.args.chain.now c.args.n (λ i lt. ap (λ b. pointer b i) (sym c.block-block.ensures)
    ∙ c.loop-i.invariant i (omega (arith, lt))))
