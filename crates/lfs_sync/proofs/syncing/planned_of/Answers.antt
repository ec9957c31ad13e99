use Rattle.std.proofs.lemmas.Result.{IfOk-weaker}
use Rattle.lfs_listing.specs.Below.{names}
use Rattle.lfs_sync.specs.Sides.{held_all, wanted_all}
use Rattle.lfs_sync.proofs.EndLemmas.{sync_joined}
use Rattle.lfs_sync.proofs.syncing.planned_of.Goals as goal

pub returns : goal.returns
returns g c =
    IfOk-weaker c.joined.result _ _
    (λ plan is. sync_joined (names c.args.at.now) c.args.rows.now c.in_ok-merging.merging
    (held_all (g.B.Blocks.disk c.args.disk.now) c.args.held.now) (wanted_all c.args.rows.now c.args.wanted.now) plan.items
    c.in_ok-merging.ensures is) c.joined.ensures
