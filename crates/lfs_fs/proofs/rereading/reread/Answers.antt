-- What is gathered and walked over is the outline.
use Rattle.lfs_fs.specs.Placed.{rows_of}
use Rattle.lfs_fs.proofs.MountLemmas.{walkable}
use Rattle.lfs_fs.proofs.RereadLemmas.{reread_outline}
use Rattle.lfs_fs.proofs.rereading.reread.Goals as goal

pub order_of-requires : goal.order_of-requires
order_of-requires g c = walkable (g.B.Blocks.disk c.args.blocks.now) c.in-Ok.field-0 c.in-Ok.ensures

pub returns-in-Ok-order_of : goal.returns-in-Ok-order_of
returns-in-Ok-order_of g c =
    let gathered = c.in-Ok.field-0 in
    reread_outline (g.B.Blocks.disk c.args.blocks.now) gathered c.in-Ok.ensures
    (rows_of gathered.outline c.in-Ok-order_of.field-0.items) c.in-Ok-order_of.ensures.listed
