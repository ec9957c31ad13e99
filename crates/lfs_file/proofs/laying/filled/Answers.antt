use Rattle.std.proofs.Common.{◌≡◌, ◌-◌, ◌*◌, ◌^◌, ◌%◌, ◌<◌, ◌≤◌, ◌++◌, slice_index, arith, sym, ap, ◌∙◌}
use Rattle.std.specs.Int.{w32, to_le_bytes}
use Rattle.lfs_file.specs.Capacity.{pointers}
use Rattle.lfs_file.specs.Laying.{laid_pointers}
use Rattle.lfs_file.proofs.PointerLemmas.{power_within, shifted_one}
use Rattle.lfs_file.proofs.SkipListLemmas.{later_at}
use Rattle.lfs_file.proofs.LayingLemmas.{pointers-none, pointers-more, filled-from}
use Rattle.lfs_file.proofs.laying.filled.Goals as goal

pub loop-i-init : goal.loop-i-init
loop-i-init c = c.in_ok-block.ensures.items ∙ sym (pointers-none c.args.blocks.now c.args.n)

pub overflow_sub-n : goal.overflow_sub-n
overflow_sub-n c =
    let lt : c.loop-i.i < pointers c.args.n = omega arith in
    let small : c.args.n < 2 ^ 32 = omega arith in
    let within : 2 ^ c.loop-i.i ≤ c.args.n = power_within c.args.n c.loop-i.i (later_at c.args.n c.loop-i.i lt) small lt in
    let same : 1 * 2 ^ c.loop-i.i % 2 ^ 64 ≡ 2 ^ c.loop-i.i = shifted_one c.args.n c.loop-i.i within small in
    omega arith

pub loop-i-preserved : goal.loop-i-preserved
loop-i-preserved c =
    let lt : c.loop-i.i < pointers c.args.n = omega arith in
    let small : c.args.n < 2 ^ 32 = omega arith in
    let within : 2 ^ c.loop-i.i ≤ c.args.n = power_within c.args.n c.loop-i.i (later_at c.args.n c.loop-i.i lt) small lt in
    let same : 1 * 2 ^ c.loop-i.i % 2 ^ 64 ≡ 2 ^ c.loop-i.i = shifted_one c.args.n c.loop-i.i within small in
    c.in_ok-extend_from_slice.ensures.items
    ∙ ap (λ xs. xs ++ c.to_le_bytes.result) c.loop-i.invariant
    ∙ ap (λ xs. laid_pointers c.args.blocks.now c.args.n c.loop-i.i ++ xs)
    (c.to_le_bytes.ensures ∙ ap (λ p. to_le_bytes w32 (slice_index c.args.blocks.now (c.args.n - p))) same)
    ∙ sym (pointers-more c.args.blocks.now c.args.n c.loop-i.i)

pub returns : goal.returns
returns c =
    filled-from c.args.block_size c.args.n c.loop-i.i c.extend_from_slice-2.new.self.len c.args.part.now c.args.blocks.now
    c.loop-i.block.items c.extend_from_slice-2.new.self.items c.resize.new.self.items
    (omega arith) c.requires.fits (omega arith) c.loop-i.invariant c.in_ok-extend_from_slice-2.ensures.items
    (omega arith) c.in_ok-resize.ensures.items
