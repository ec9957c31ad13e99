use Rattle.std.proofs.Common.{sym, ap, ◌∙◌}
use Rattle.lfs_block.specs.Disk.{Disk}
use Rattle.lfs_block.proofs.OverlayLemmas.{laid-is_disk}
use Rattle.lfs_block.proofs.overlay.OverlayBlocks.count.Goals as goal

pub returns : goal.returns
returns g c =
    let here = c.self.inside in
    let is = laid-is_disk here.side here.patch.now here.erased.now (g.B.Blocks.disk here.base.now) c.self.invariant in
    c.count.ensures ∙ sym is.count ∙ ap (λ (d : Disk). d.count) c.self.view_is
