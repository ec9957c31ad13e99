use Rattle.std.proofs.Common.{ap, ◌∙◌, [], List, Bor, ◌++◌, ◌∷◌}
use Rattle.std.specs.Option.{unwrap_or}
use Rattle.std.proofs.lemmas.Result.{IfOk-weaker}
use Rattle.lfs_meta.specs.Name.{Name}
use Rattle.lfs_fs.specs.Limits.{most_held}
use Rattle.lfs_fs.specs.Path.{path_text}
use Rattle.lfs_fs.specs.Tree.{tree}
use Rattle.lfs_command.specs.Command.{Put}
use Rattle.lfs_sync.specs.Planned.{in_texts, plan_asked}
use Rattle.lfs_listing.specs.Below.{names}
use Rattle.lfs_sync.specs.SyncRows.{bytes_at}
use Rattle.lfs_sync.specs.Synced.{lacking}
use Rattle.lfs_sync.proofs.EndLemmas.{put_some, spelled_is}
use Rattle.lfs_sync.proofs.making.put_plan.Goals as goal

pub returns : goal.returns
returns c =
    let ns : List (Bor Name) = c.in-Some.names.items in
    let spelled = spelled_is c.args.at.now c.in_ok-names.field-0 c.in-Some.names c.in-Some.is c.in_ok-names.ensures in
    IfOk-weaker c.with_parents.result _ _
    (λ plan planned d is rows. put_some d c.args.mounted.now is rows c.args.at.now (names ns) spelled (plan_asked rows plan.items)
    (planned rows ∙ ap (λ (l : List (Bor Name)). in_texts (lacking (tree c.args.mounted.now.outline) [] (names l))
    ++ Put (path_text (names l)) (unwrap_or (bytes_at rows 0) []) most_held ∷ []) c.deref.ensures.value))
    c.with_parents.ensures
