use Rattle.std.proofs.Common.{ap, sym, ◌∙◌, [], List, Bor, subst, ◌++◌, ◌∷◌}
use Rattle.std.proofs.lemmas.Result.{IfOk-weaker}
use Rattle.lfs_meta.specs.Name.{Name}
use Rattle.lfs_fs.specs.Path.{path_text}
use Rattle.lfs_fs.specs.Tree.{tree}
use Rattle.lfs_command.specs.Command.{Mkdir}
use Rattle.lfs_command.specs.Verdict.{is_directory}
use Rattle.lfs_sync.specs.Planned.{IsPlanOf, in_texts, plan_asked}
use Rattle.lfs_listing.specs.Below.{names}
use Rattle.lfs_sync.specs.Synced.{lacking, make_commands}
use Rattle.lfs_sync.specs.declared.planned.Planned.{Planned}
use Rattle.lfs_sync.specs.declared.planned.PlannedKind.TheVariants as kind
use Rattle.lfs_sync.proofs.EndLemmas.{make_none, make_some, spelled_is}
use Rattle.lfs_sync.proofs.making.make_plan.Goals as goal

pub returns-then-branch : goal.returns-then-branch
returns-then-branch c d is rows =
    let ns : List (Bor Name) = c.in-Some.names.items in
    let spelled = spelled_is c.args.at.now c.in_ok-names.field-0 c.in-Some.names c.in-Some.is c.in_ok-names.ensures in
    let there =
    ap (λ (l : List (Bor Name)). is_directory (tree c.args.mounted.now.outline (names l))) (sym c.deref.ensures.value)
    ∙ sym c.in_ok-is_directory.ensures ∙ c.if-branch.true in
    subst (λ (l : List Planned). IsPlanOf c.args.at.now kind.Directory (make_commands (tree is.volume)) rows (plan_asked rows l)) (sym c.new.ensures.items)
    (make_none d c.args.mounted.now is rows c.args.at.now (names ns) spelled there)

pub returns : goal.returns
returns c =
    let ns : List (Bor Name) = c.in-Some.names.items in
    let spelled = spelled_is c.args.at.now c.in_ok-names.field-0 c.in-Some.names c.in-Some.is c.in_ok-names.ensures in
    let none =
    ap (λ (l : List (Bor Name)). is_directory (tree c.args.mounted.now.outline (names l))) (sym c.deref.ensures.value)
    ∙ sym c.in_ok-is_directory.ensures ∙ c.if-branch.false in
    IfOk-weaker c.with_parents.result _ _
    (λ plan planned d is rows. make_some d c.args.mounted.now is rows c.args.at.now (names ns) spelled none (plan_asked rows plan.items)
    (planned rows ∙ ap (λ (l : List (Bor Name)). in_texts (lacking (tree c.args.mounted.now.outline) [] (names l)) ++ Mkdir (path_text (names l)) ∷ [])
    c.deref-2.ensures.value))
    c.with_parents.ensures
