use Rattle.std.proofs.Common.{◌≡◌, ap, ◌∙◌}
use Rattle.lfs_block.specs.Disk.{block_of}
use Rattle.lfs_lower.specs.Spelled.{is_root_block, lowered_block}
use Rattle.lfs_lower.proofs.LoweredPairs.{block_lowered, lowered_len}
use Rattle.lfs_lower.proofs.lowering.lower_block.Goals as goal

pub write_block-requires-clause-complete : goal.write_block-requires-clause-complete
write_block-requires-clause-complete c =
    let is : c.deref.result.now ≡ lowered_block (is_root_block c.args.number) (block_of c.args.image.now.disk c.args.number) =
    c.deref.ensures.value ∙ c.in_ok-block.ensures ∙ ap (lowered_block (is_root_block c.args.number)) c.block.ensures in
    lowered_len c.lowered_blocks_are_read.ensures.blocks c.args.image.now.disk c.args.number c.deref.result.now
    c.size-fits_the_limits.ensures.disk c.requires is

pub returns : goal.returns
returns c =
    let is : c.deref.result.now ≡ lowered_block (is_root_block c.args.number) (block_of c.args.image.now.disk c.args.number) =
    c.deref.ensures.value ∙ c.in_ok-block.ensures ∙ ap (lowered_block (is_root_block c.args.number)) c.block.ensures in
    block_lowered c.lowered_blocks_are_read.ensures.blocks c.put_blocks_stand.ensures.block c.put_blocks_stand.ensures.others
    c.put_blocks_stand.ensures.disk c.args.image.now.disk c.write_block.new.self.disk c.args.number c.deref.result.now
    c.size-fits_the_limits.ensures.disk c.requires is c.write_block.ensures.disk
