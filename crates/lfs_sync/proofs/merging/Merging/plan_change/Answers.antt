use Rattle.std.proofs.Common.{Option, List, ℕ, ap, ◌∙◌}
use Rattle.std.proofs.lemmas.Result.{on_ok_weaker}
use Rattle.lfs_block.specs.Disk.{Disk}
use Rattle.lfs_fs.specs.RowShown.{shown_node}
use Rattle.lfs_sync.specs.Shown.{wanted_node}
use Rattle.lfs_listing.specs.Below.{names}
use Rattle.lfs_sync.specs.Sides.{held_shown, wanted_shown}
use Rattle.lfs_sync.specs.Synced.{same_held, same_kind}
use Rattle.lfs_sync.proofs.PlanLemmas.{change_planned}
use Rattle.lfs_sync.proofs.merging.Merging.plan_change.Goals as goal

pub returns-clause-plans : goal.returns-clause-plans
returns-clause-plans g c =
    let d : Disk = g.B.Blocks.disk c.args.disk.now in
    let e = c.args.row.now.row.entry in
    on_ok_weaker c.plan_making.result
    (λ second. change_planned (names c.args.at.now) c.args.rows.now c.args.self.now c.plan_removal.new.self c.plan_making.new.self
    (held_shown d c.args.row.now) (wanted_shown c.args.rows.now c.args.other.now) c.same_kind-stays.result c.same_contents-is_there.result
    (c.in_ok-plan_removal.ensures.plans d c.args.rows.now) second
    (c.same_kind-stays.ensures d ∙ ap (λ (b : Option (List ℕ)). same_kind (wanted_node b) (shown_node d e)) c.bytes_at-bytes.ensures)
    (c.same_contents-is_there.ensures ∙ ap (λ (b : Option (List ℕ)). same_held (shown_node d e) (wanted_node b)) c.bytes_at-bytes.ensures))
    c.plan_making.ensures.plans
