-- One more pair holds its part.
use Rattle.lfs_lower.proofs.PartsPut.{next_put}
use Rattle.lfs_lower.proofs.putting.put_parts.Goals as goal

pub loop-part-preserved : goal.loop-part-preserved
loop-part-preserved g c =
    next_put c.parts_depend_on_their_blocks.ensures (g.B.Blocks.disk c.args.image.now) (g.B.Blocks.disk c.loop-part.image) (g.B.Blocks.disk c.put_part.new.image)
    c.args.parts.now c.loop-part.part-index c.part-item.result c.loop-part-test.true c.part-item.is c.requires.apart c.loop-part.invariant
    c.in_ok-put_part.ensures
