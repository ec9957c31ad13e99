-- Each refusal has its cause, and what is answered is what the image mounts to.
use Rattle.std.proofs.Common.{Bool, List, ap, ◌∙◌}
use Rattle.std.proofs.lemmas.Result.{err_from_is_err_and}
use Rattle.lfs_fs.specs.Placed.{rows_of}
use Rattle.lfs_fs.specs.Unused.{unused}
use Rattle.lfs_fs.proofs.SuperblockFirstLemmas.{good_blames}
use Rattle.lfs_fs.proofs.MountLemmas.{walkable, walk_cause, mounted_by}
use Rattle.lfs_fs.proofs.mounting.mount.Goals as goal

pub order_of-requires : goal.order_of-requires
order_of-requires g c = walkable (g.B.Blocks.disk c.args.blocks.now) c.in_ok-outline.field-0 c.in_ok-outline.ensures.gathered

pub returns-in_err-order-clause-refused : goal.returns-in_err-order-clause-refused
returns-in_err-order-clause-refused g c =
    let d = g.B.Blocks.disk c.args.blocks.now in
    let p = err_from_is_err_and c.from_residual-in_err-order.result c.from_residual-in_err-order.ensures.1 in
    rw (p.1, p.2) (walk_cause d c.in_ok-outline.field-0 c.in_ok-outline.ensures.gathered c.in_err-order.field-0.0
    c.in_err-order.ensures.refused)

pub returns-clause-mounted : goal.returns-clause-mounted
returns-clause-mounted g c =
    let d = g.B.Blocks.disk c.args.blocks.now in
    let gathered = c.in_ok-outline.field-0 in
    let found = c.in_ok-outline.ensures.gathered in
    mounted_by d gathered found (rows_of gathered.outline c.in_ok-order.order.items) c.new.result c.in_ok-order.ensures.listed
    (c.new.ensures ∙ ap (λ (flags : List Bool). record {
      outline = gathered.outline;
      rows = rows_of gathered.outline c.in_ok-order.order.items;
      free = unused flags;
    }) c.new-used.ensures)

pub returns-in_err-order-clause-first : goal.returns-in_err-order-clause-first
returns-in_err-order-clause-first g c =
    let d = g.B.Blocks.disk c.args.blocks.now in
    let p = err_from_is_err_and c.from_residual-in_err-order.result c.from_residual-in_err-order.ensures.1 in
    rw (p.1, p.2) (good_blames d c.in_err-order.field-0.0 c.in_ok-outline.ensures.good)
