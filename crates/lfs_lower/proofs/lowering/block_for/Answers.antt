-- A block written anew or lowered is read for its pair.
use Rattle.std.proofs.Common.{◌∙◌, ◌<◌, List, ℕ, length, ap, sym, subst}
use Rattle.std.proofs.lemmas.Result.{IfOk-weaker}
use Rattle.lfs_block.specs.Disk.{Disk}
use Rattle.lfs_block.specs.Geometry.{IsBlockSize}
use Rattle.lfs_lower.specs.Spelled.{is_root_block, lowered_block}
use Rattle.lfs_lower.proofs.AloneBlocks.{live_within}
use Rattle.lfs_lower.proofs.LoweredPairs.{block_fits, lowered_for}
use Rattle.lfs_lower.proofs.lowering.block_for.Goals as goal

pub block-old-requires : goal.block-old-requires
block-old-requires g c =
    live_within (g.B.Blocks.disk c.args.image.now).count c.args.pair c.args.live c.requires.live.0 c.requires.first c.requires.second c.requires.live.1.of

pub lowered_block-requires : goal.lowered_block-requires
lowered_block-requires g c =
    let d : Disk = (g.B.Blocks.disk c.args.image.now) in
    let within : c.args.live < d.count =
    live_within d.count c.args.pair c.args.live c.requires.live.0 c.requires.first c.requires.second c.requires.live.1.of in
    subst (λ (b : List ℕ). IsBlockSize (length b)) (sym c.block-old.ensures)
    (block_fits d c.args.live c.size-fits_the_limits.ensures.disk within)

pub returns : goal.returns
returns g c =
    let d : Disk = (g.B.Blocks.disk c.args.image.now) in
    let live : ℕ = c.args.live in
    let within : live < d.count =
    live_within d.count c.args.pair live c.requires.live.0 c.requires.first c.requires.second c.requires.live.1.of in
    IfOk-weaker c.lowered_block.result _ _ (λ block is.
    lowered_for c.lowered_blocks_are_read.ensures.blocks c.erased_block.ensures c.log_is_read.ensures d c.args.pair live c.requires.live.0
    block.items c.size-fits_the_limits.ensures.disk within c.requires.live.1 (is ∙ ap (lowered_block (is_root_block live)) c.block-old.ensures))
    c.lowered_block.ensures
