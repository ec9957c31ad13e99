-- The part's block is put into its pair.
use Rattle.std.proofs.Common.{ap, ◌∙◌, rules}
use Rattle.std.specs.Prelude.{replicate}
use Rattle.lfs_fs.specs.Directory.{Part}
use Rattle.lfs_pair.specs.Writing.{IsFirstBlock, stored_part}
use Rattle.lfs_law.specs.PairWritten.{link_to}
use Rattle.lfs_law.specs.SuperblockBytes.{volume_bytes}
use Rattle.lfs_pack.proofs.PairsFilled.{pair_filled}
use Rattle.lfs_pack.proofs.filling.fill_pair.Goals as goal

pub returns-clause-filled : goal.returns-clause-filled
returns-clause-filled c =
    let d = c.args.image.now.disk in
    let bytes = volume_bytes c.args.outline.now in
    let attributes = c.args.outline.now.attributes in
    let first : IsFirstBlock c.size-size.result (stored_part c.deref.result.now c.args.tail (replicate 12 0)) c.in_ok-block.block.items =
    search rules in
    pair_filled bytes attributes c.put_blocks_stand.ensures.block c.put_blocks_stand.ensures.others d c.put_block.new.image.disk
    (link_to c.args.part.now c.args.tail) c.part.inside.pair.0 c.size-size.result c.deref.result.now c.in_ok-block.block.items
    c.size-size.ensures.disk c.requires.can first (ap (λ (p : Part). p.pair.0) c.part.view_is) c.size-size.ensures.value
    (c.deref.ensures.value ∙ c.in_ok-entries.ensures) c.in_ok-put_block.ensures.put c.put_block.ensures.disk
