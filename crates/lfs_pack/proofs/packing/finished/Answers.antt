-- The outline is written, and the image holds the volume then.
use Rattle.std.proofs.Common.{subst, sym}
use Rattle.lfs_pack.specs.Filled.{CanTakeOutline, TakesOutline}
use Rattle.lfs_pack.proofs.packing.finished.Goals as goal

pub write_outline-requires : goal.write_outline-requires
write_outline-requires c =
    subst (CanTakeOutline c.args.new.image.disk) (sym c.requires.1.outline)
    (c.unwritten_images_go_on.ensures.finish c.args.new.image.disk c.requires.0 c.requires.1.unwritten).can

pub returns : goal.returns
returns c = λ v at.
    (c.unwritten_images_go_on.ensures.finish c.args.new.image.disk v at.unwritten).finished c.write_outline.new.image.disk
    (subst (TakesOutline c.args.new.image.disk c.write_outline.new.image.disk) at.outline c.in_ok-write_outline.ensures.taken)
