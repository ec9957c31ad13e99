use Rattle.std.proofs.Common.{◌≡◌, ◌+◌, ◌-◌, ◌*◌, ◌<◌, ◌≤◌, [], length, ap, sym, ◌∙◌, arith, rules, refl}
use Rattle.std.proofs.lemmas.List.Elements.{All-tail, All-same}
use Rattle.lfs_block.specs.Disk.{block_of}
use Rattle.lfs_file.specs.Capacity.{pointers}
use Rattle.lfs_file.proofs.CapacityLemmas.{pointers_few}
use Rattle.lfs_block.proofs.BlockLens.{length-block}
use Rattle.lfs_file.proofs.SliceLemmas.{slices-none, slices-step}
use Rattle.lfs_file.proofs.file_slices.FileSlicesIterator.next.Goals as goal

pub returns-in_default-clause-steps : goal.returns-in_default-clause-steps
returns-in_default-clause-steps g c =
    let d = g.B.Blocks.disk c.self.inside.disk.now in
    let none : c.args.self.now ≡ [] = sym c.self.view_is ∙ slices-none d c.self.inside.number c.self.inside.left
    c.self.inside.chain.now c.in_default.ensures.cases in
    (none, none)

pub slice_bounds-slice-end : goal.slice_bounds-slice-end
slice_bounds-slice-end g c =
    let d = g.B.Blocks.disk c.self.inside.disk.now in
    let few : pointers c.self.inside.number ≤ 33 = pointers_few c.self.inside.number in
    let below : c.in-Some.field-0-0.now < d.count = (All-same (λ b. b < d.count) _ _ (sym c.in-Some.ensures.cases.0) c.self.invariant.0) 0 0
    (omega arith) in
    let complete : length (block_of d c.in-Some.field-0-0.now) ≡ d.size = length-block d c.in-Some.field-0-0.now c.size.ensures.disk below in
    let here : length c.block.result.now ≡ length (block_of d c.in-Some.field-0-0.now) = ap length c.block.ensures in
    omega arith

pub invariant_of-self : goal.invariant_of-self
invariant_of-self g c =
    let d = g.B.Blocks.disk c.self.inside.disk.now in (
      All-tail (λ b. b < d.count) c.in-Some.field-0-0.now c.in-Some.later.now
          (All-same (λ b. b < d.count) _ _ (sym c.in-Some.ensures.cases.0) c.self.invariant.0),
      omega (arith, c.self.invariant.1, c.in-Some.ensures.cases.1),
    )

pub returns-clause-steps : goal.returns-clause-steps
returns-clause-steps g c =
    let d = g.B.Blocks.disk c.self.inside.disk.now in
    let below : c.in-Some.field-0-0.now < d.count = (All-same (λ b. b < d.count) _ _ (sym c.in-Some.ensures.cases.0) c.self.invariant.0) 0 0
    (omega arith) in
    let complete : length (block_of d c.in-Some.field-0-0.now) ≡ d.size = length-block d c.in-Some.field-0-0.now c.size.ensures.disk below in
    sym c.self.view_is ∙ slices-step d c.self.inside.number c.self.inside.left (4 * c.pointers_of.result) c.size.result
    (c.size.result - 4 * c.pointers_of.result) (4 * c.pointers_of.result + c.min.result - 4 * c.pointers_of.result)
    c.saturating_sub-self-inside.result c.self.inside.chain.now c.in-Some.field-0-0.now c.in-Some.later.now c.block.result.now
    c.in-Some.ensures.cases.0 c.block.ensures (complete ∙ sym c.size.ensures.value) (ap (λ n. 4 * n) c.pointers_of.ensures) refl
    (omega arith) c.saturating_sub-self-inside.ensures

pub returns-clause-goes : goal.returns-clause-goes
returns-clause-goes g c = let shorter = ap length (returns-clause-steps g c) in search rules
