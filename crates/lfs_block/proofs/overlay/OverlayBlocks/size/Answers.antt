use Rattle.std.proofs.Common.{sym, ap, subst, ◌∙◌}
use Rattle.lfs_block.specs.Disk.{Disk, IsDisk}
use Rattle.lfs_block.proofs.OverlayLemmas.{laid-is_disk}
use Rattle.lfs_block.proofs.overlay.OverlayBlocks.size.Goals as goal

pub returns-clause-value : goal.returns-clause-value
returns-clause-value g c =
    let here = c.self.inside in
    let is = laid-is_disk here.side here.patch.now here.erased.now (g.B.Blocks.disk here.base.now) c.self.invariant in
    c.size.ensures.value ∙ c.self.invariant.size ∙ sym is.size ∙ ap (λ (d : Disk). d.size) c.self.view_is

pub returns-clause-disk : goal.returns-clause-disk
returns-clause-disk g c =
    let here = c.self.inside in
    let is = laid-is_disk here.side here.patch.now here.erased.now (g.B.Blocks.disk here.base.now) c.self.invariant in
    subst IsDisk c.self.view_is is.disk
