use Rattle.std.proofs.Common.{ap, ◌++◌, List, [], ◌≡◌, Bor, arith, not, sym, take, subst}
use Rattle.std.specs.Prelude.{is_some}
use Rattle.std.proofs.lemmas.List.{take-map}
use Rattle.lfs_meta.specs.Name.{Name}
use Rattle.lfs_fs.specs.Path.{Path}
use Rattle.lfs_fs.specs.Tree.{tree}
use Rattle.lfs_command.specs.Command.{Mkdir}
use Rattle.lfs_sync.specs.Merging.{PlansBehind, if_so}
use Rattle.lfs_sync.specs.Planned.{in_texts, plan_asked}
use Rattle.lfs_listing.specs.Below.{names}
use Rattle.lfs_sync.specs.Synced.{lacking}
use Rattle.lfs_sync.specs.declared.planned.Planned.{Planned}
use Rattle.lfs_sync.proofs.LackingLemmas.{names_long, parent_further, parents_end}
use Rattle.lfs_sync.proofs.making.parents_of.Goals as goal

pub fronts-preserved : goal.fronts-preserved
fronts-preserved c rows =
    let t = tree c.args.mounted.now.outline in
    let ns : Path = names c.args.path.now in
    let prefix : names (take c.fronts.length c.args.path.now) ≡ take c.fronts.length ns =
    sym (take-map (λ (n : Bor Name). n.now) c.fronts.length c.args.path.now) in
    parent_further t ns rows c.fronts.plan.items c.plan_parent.new.plan.items c.fronts.length c.fronts.auto.length
    (omega (arith, names_long c.args.path.now)) (c.fronts.invariant rows)
    (subst (λ (p : Path). PlansBehind rows c.fronts.plan.items c.plan_parent.new.plan.items (if_so (not (is_some (t p))) (Mkdir p))) prefix
    (c.in_ok-plan_parent.ensures rows))

pub returns : goal.returns
returns c rows =
    parents_end (tree c.args.mounted.now.outline) (names c.args.path.now) rows c.fronts.plan.items c.fronts.length c.fronts.auto.length
    (omega (arith, names_long c.args.path.now)) (c.fronts.invariant rows)

pub fronts-init : goal.fronts-init
fronts-init c rows =
    let ns : Path = names c.args.path.now in
    ap (λ (l : List Planned). plan_asked rows l ++ in_texts (lacking (tree c.args.mounted.now.outline) [] ns)) c.new-plan.ensures.items
