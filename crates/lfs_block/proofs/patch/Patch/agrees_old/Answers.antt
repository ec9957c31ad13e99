use Rattle.lfs_block.proofs.AgreementLemmas.{agrees_old-decided}
use Rattle.lfs_block.proofs.patch.Patch.agrees_old.Goals as goal

pub returns-then-has_geometry_of : goal.returns-then-has_geometry_of
returns-then-has_geometry_of c =
    agrees_old-decided c.args.self.now c.args.image.now.disk c.finds.result c.finds.ensures.growth
    (c.has_geometry_of.ensures.0 c.if-has_geometry_of.true) c.finds.ensures.found
