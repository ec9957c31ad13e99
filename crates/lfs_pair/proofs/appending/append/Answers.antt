-- The pair's live block with the commit stands in the image in its place.
use Rattle.std.proofs.Common.{◌≡◌, ◌∙◌, ℕ, Bool, false, List, length, ap, ap₂, subst}
use Rattle.std.specs.Prelude.{IfNone, option_and_then}
use Rattle.std.proofs.lemmas.Option.{IfSome_then}
use Rattle.std.proofs.lemmas.Result.{IfOk-weaker}
use Rattle.lfs_block.specs.Disk.{Disk, block_of}
use Rattle.lfs_tag.specs.Commit.{Item}
use Rattle.lfs_tag.specs.Writing.{items}
use Rattle.lfs_meta.specs.LiveBlock.{live_block, live_log}
use Rattle.lfs_meta.specs.Replay.{replay}
use Rattle.lfs_block.proofs.BlockLens.{length-block}
use Rattle.lfs_pair.specs.Appending.{IsLiveLonger, can_append, some_room}
use Rattle.lfs_pair.proofs.LiveLonger.{pair-appended}
use Rattle.lfs_pair.proofs.appending.append.Goals as goal

pub returns-clause-appended : goal.returns-clause-appended
returns-clause-appended g c =
    let d : Disk = g.B.Blocks.disk c.args.blocks.now in
    let ts : List Item = items c.args.edits.now in
    let size : length (block_of d c.args.pair.0) ≡ d.size =
    length-block d c.args.pair.0 c.size-fits_the_limits.ensures.disk c.requires.first in
    IfOk-weaker c.live_longer.result _ _ (λ found longer. IfSome_then found longer (λ new is.
    pair-appended c.put_blocks_stand.ensures.block c.put_blocks_stand.ensures.others d c.args.pair ts new.0 new.1.items
    c.size-fits_the_limits.ensures.disk c.requires.apart c.requires.first c.requires.second size
    (subst (λ (first : List ℕ). IsLiveLonger ts c.args.pair first (block_of d c.args.pair.1) new.0 new.1.items) c.block-first.ensures
    (subst (λ (second : List ℕ). IsLiveLonger ts c.args.pair c.block-first.result.now second new.0 new.1.items) c.block-second.ensures is))))
    c.live_longer.ensures.longer

pub returns-clause-part : goal.returns-clause-part
returns-clause-part g c =
    IfOk-weaker c.live_longer.result _ _ (λ found appended. IfSome_then found appended (λ new is. ap (option_and_then replay) is.held))
    (returns-clause-appended g c)

pub returns-clause-full : goal.returns-clause-full
returns-clause-full g c =
    let d : Disk = g.B.Blocks.disk c.args.blocks.now in
    let ts : List Item = items c.args.edits.now in
    let size : length c.block-first.result.now ≡ d.size =
    ap length c.block-first.ensures ∙ length-block d c.args.pair.0 c.size-fits_the_limits.ensures.disk c.requires.first in
    let same : some_room (length c.block-first.result.now) (live_log (live_block c.block-first.result.now c.block-second.result.now)) ts
    ≡ can_append d c.args.pair ts =
    ap (λ (n : ℕ). some_room n (live_log (live_block c.block-first.result.now c.block-second.result.now)) ts) size
    ∙ ap₂ (λ (first second : List ℕ). some_room d.size (live_log (live_block first second)) ts) c.block-first.ensures c.block-second.ensures in
    IfOk-weaker c.live_longer.result _ _ (λ found full. subst (λ (b : Bool). IfNone found (b ≡ false)) same full) c.live_longer.ensures.full
