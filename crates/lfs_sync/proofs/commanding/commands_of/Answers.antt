use Rattle.std.proofs.Common.{◌++◌, ◌∷◌, [], List, ap, map, sym, ◌∙◌}
use Rattle.std.proofs.lemmas.List.{map-append}
use Rattle.lfs_command.specs.AskedFor.{asked_for}
use Rattle.lfs_command.specs.Command.{Asked, bounded}
use Rattle.lfs_sync.specs.declared.planned.Planned.{Planned}
use Rattle.lfs_sync.specs.Planned.{plan_asked, planned_asked}
use Rattle.lfs_sync.proofs.PlanLemmas.{one_more}
use Rattle.lfs_sync.proofs.commanding.commands_of.Goals as goal

pub each-preserved : goal.each-preserved
each-preserved c =
    let rows = c.args.rows.now in
    let bound : Asked → Asked = bounded c.args.most in
    one_more asked_for (λ (l : List Planned). map bound (plan_asked rows l)) c.each.commands.items c.push.new.self.items c.args.plan.now
    c.each.planned-index c.command_of.result c.planned-item.result c.in_ok-push.ensures.items c.each-test.true c.planned-item.is
    (λ l. ap (map bound) (map-append (planned_asked rows) l (c.planned-item.result ∷ []))
    ∙ map-append bound (plan_asked rows l) (planned_asked rows c.planned-item.result ∷ [])
    ∙ ap (λ (a : Asked). map bound (plan_asked rows l) ++ a ∷ []) (sym c.command_of.ensures)) c.each.invariant
