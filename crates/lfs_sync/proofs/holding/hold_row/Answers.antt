use Rattle.std.proofs.Common.{Option, refl, subst, sym}
use Rattle.lfs_fs.specs.Path.{Path}
use Rattle.lfs_sync.specs.Sides.{HoldsMore}
use Rattle.lfs_sync.specs.declared.held_row.HeldRow.{HeldRow}
use Rattle.lfs_sync.proofs.holding.hold_row.Goals as goal

pub returns : goal.returns
returns c =
    let h : HeldRow = record { path = c.in_ok-rest.rest; row = c.args.row } in
    subst (λ (o : Option Path). HoldsMore o c.args.row c.args.held.now.items c.push.new.self.items) (sym c.in_ok-rest.ensures)
    (h, refl, refl, c.in_ok-push.ensures.items)
