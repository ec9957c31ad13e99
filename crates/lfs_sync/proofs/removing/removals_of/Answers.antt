use Rattle.std.proofs.Common.{[], ◌++◌, ◌∷◌, Bor, sym, ◌≡◌, List, ap, arith, map, take, take_all, ◌∙◌}
use Rattle.lfs_meta.specs.Name.{Name}
use Rattle.lfs_fs.specs.Path.{Path, path_text}
use Rattle.lfs_command.specs.Command.{Asked, Rm}
use Rattle.lfs_sync.specs.Planned.{in_texts, planned_asked}
use Rattle.lfs_listing.specs.Below.{names}
use Rattle.lfs_sync.specs.Sides.{held_all}
use Rattle.lfs_sync.specs.Synced.{removing}
use Rattle.lfs_sync.specs.declared.held_row.HeldRow.{HeldRow}
use Rattle.lfs_sync.proofs.PlanLemmas.{one_more, removed_more}
use Rattle.lfs_sync.proofs.RemovalLemmas.{all_removed}
use Rattle.lfs_sync.proofs.removing.removals_of.Goals as goal

pub returns : goal.returns
returns c d rows =
    let all : take c.each.row-index c.args.held.now ≡ c.args.held.now = take_all c.each.row-index c.args.held.now (omega arith) in
    all_removed rows c.each.plan.items c.reverse.new.self.items (names c.args.at.now) (held_all d c.args.held.now) c.reverse.ensures.items
    (c.each.invariant d rows ∙ ap (λ (l : List HeldRow). in_texts (map (removing (names c.args.at.now)) (held_all d l))) all)

pub each-preserved : goal.each-preserved
each-preserved c d rows =
    let at : Path = names c.args.at.now in
    let h : HeldRow = c.row-item.result in
    let one : planned_asked rows c.in_ok-planned.field-0 ≡ Rm (path_text (at ++ names h.path.items)) =
    c.in_ok-planned.ensures rows ∙ ap (λ (l : List (Bor Name)). Rm (path_text (at ++ names l))) c.deref.ensures.value in
    one_more (planned_asked rows) (λ (l : List HeldRow). in_texts (map (removing at) (held_all d l))) c.each.plan.items c.push.new.self.items
    c.args.held.now c.each.row-index c.in_ok-planned.field-0 h c.in_ok-push.ensures.items c.each-test.true c.row-item.is
    (λ l. removed_more d at h l ∙ ap (λ (a : Asked). in_texts (map (removing at) (held_all d l)) ++ a ∷ []) (sym one)) (c.each.invariant d rows)
