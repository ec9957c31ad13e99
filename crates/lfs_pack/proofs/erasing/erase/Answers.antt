-- One block more is erased.
use Rattle.std.proofs.Common.{◌≡◌, ℕ, List, length, take, take_all, get_or, ap, sym, ◌∙◌, subst, arith}
use Rattle.std.specs.Prelude.{replicate}
use Rattle.std.proofs.lemmas.List.{length-replicate, take_more}
use Rattle.lfs_block.specs.Disk.{put}
use Rattle.lfs_pack.proofs.ErasedBlocks.{AreErasedSoFar, none_erased, one_erased}
use Rattle.lfs_pack.proofs.erasing.erase.Goals as goal

pub each-init : goal.each-init
each-init c = none_erased c.args.image.now.disk c.size-size.ensures.disk

pub put_block-requires-clause-within : goal.put_block-requires-clause-within
put_block-requires-clause-within c =
    omega (arith, c.requires c.each.block-index 0 c.each-test.true, c.each.invariant.others.disk.count)

pub put_block-requires-clause-len : goal.put_block-requires-clause-len
put_block-requires-clause-len c =
    ap (λ (bs : List ℕ). length bs) (c.in_ok-erased.ensures.items_if_clones_equal (λ y same. same))
    ∙ length-replicate c.size-size.result 255 ∙ c.size-size.ensures.value ∙ sym c.each.invariant.others.disk.size

pub each-preserved : goal.each-preserved
each-preserved c =
    let d = c.args.image.now.disk in
    let e = c.each.image.disk in
    let blocks = c.args.blocks.now in
    let i = c.each.block-index in
    let erased : c.in_ok-erased.erased.items ≡ replicate e.size 0xff =
    c.in_ok-erased.ensures.items_if_clones_equal (λ y same. same)
    ∙ ap (λ (n : ℕ). replicate n 0xff) (c.size-size.ensures.value ∙ sym c.each.invariant.others.disk.size) in
    subst (AreErasedSoFar d c.put_block.new.image.disk) (sym (take_more blocks i 0 c.each-test.true))
    (one_erased c.put_blocks_stand.ensures.block c.put_blocks_stand.ensures.others d e c.put_block.new.image.disk (take i blocks)
    (get_or blocks i 0) c.each.invariant.others.disk.disk c.each.invariant
    (omega (arith, c.requires i 0 c.each-test.true, c.each.invariant.others.disk.count))
    (c.in_ok-put_block.ensures.put ∙ ap (λ (bs : List ℕ). put (get_or blocks i 0) bs e) erased) c.put_block.ensures.disk)

pub returns-clause-erased : goal.returns-clause-erased
returns-clause-erased c =
    (subst (AreErasedSoFar c.args.image.now.disk c.each.image.disk)
    (take_all c.each.block-index c.args.blocks.now (omega (arith, c.each-test.false))) c.each.invariant).erased

pub returns-clause-others : goal.returns-clause-others
returns-clause-others c =
    (subst (AreErasedSoFar c.args.image.now.disk c.each.image.disk)
    (take_all c.each.block-index c.args.blocks.now (omega (arith, c.each-test.false))) c.each.invariant).others
