use Rattle.std.proofs.Common.{◌≡◌, List, Bor, ap, sym, subst, ◌∙◌}
use Rattle.std.proofs.lemmas.Result.{IfOk-weaker}
use Rattle.lfs_block.specs.Disk.{Disk}
use Rattle.lfs_meta.specs.Name.{Name}
use Rattle.lfs_fs.specs.Listed.{rows_listed}
use Rattle.lfs_fs.specs.Path.{Path}
use Rattle.lfs_fs.specs.Row.{Row}
use Rattle.lfs_listing.specs.Comparing.{AreComplete}
use Rattle.lfs_listing.proofs.CompleteLemmas.{rows_are_complete}
use Rattle.lfs_sync.specs.Planned.{in_texts, plan_asked}
use Rattle.lfs_sync.specs.Shown.{Shown, ShownRise, held_of}
use Rattle.lfs_listing.specs.Below.{names}
use Rattle.lfs_sync.specs.Sides.{CanBeRead, held_all, wanted_all}
use Rattle.lfs_sync.specs.Synced.{sync_commands}
use Rattle.lfs_sync.specs.declared.held_row.HeldRow.{HeldRow}
use Rattle.lfs_sync.specs.declared.wanted_row.WantedRow.{WantedRow}
use Rattle.lfs_sync.proofs.EndLemmas.{spelled_is, sync_all}
use Rattle.lfs_sync.proofs.HeldLemmas.{held_rise}
use Rattle.lfs_sync.proofs.syncing.sync_plan.Goals as goal

pub planned_of-requires-clause-rise : goal.planned_of-requires-clause-rise
planned_of-requires-clause-rise g c =
    let d : Disk = g.B.Blocks.disk c.args.disk.now in
    let p : Path = names c.deref.result.now in
    let are : held_all d c.deref-3.result.now ≡ held_of d p c.args.mounted.now.rows =
    ap (λ (l : List HeldRow). held_all d l) c.deref-3.ensures.value ∙ c.in_ok-held.ensures.shown d
    ∙ ap (λ (l : List Row). held_of d p l) c.rows.ensures in
    subst (λ (l : List Shown). ShownRise l) (sym are) (held_rise d p c.args.mounted.now.rows c.requires.mounted.rows.rise)

pub planned_of-requires-clause-rises : goal.planned_of-requires-clause-rises
planned_of-requires-clause-rises g c =
    let say = c.requires.rows in
    let are : wanted_all c.args.rows.now c.deref-4.result.now ≡ say.0 =
    ap (λ (l : List WantedRow). wanted_all c.args.rows.now l) c.deref-4.ensures.value ∙ c.in_ok-wanted.ensures say.0 say.1 in
    subst (λ (l : List Shown). ShownRise l) (sym are) say.1.rise

pub planned_of-requires-clause-complete : goal.planned_of-requires-clause-complete
planned_of-requires-clause-complete g c =
    let d : Disk = g.B.Blocks.disk c.args.disk.now in
    subst (CanBeRead d) (sym c.deref-3.ensures.value)
    (c.in_ok-held.ensures.complete d
    (subst (λ (l : List Row). AreComplete d l) (sym c.rows.ensures)
    (rows_are_complete c.rows_show_the_tree.ensures d c.args.mounted.now c.size-size.ensures.disk c.requires.mounted)))

pub returns : goal.returns
returns g c =
    let d : Disk = g.B.Blocks.disk c.args.disk.now in
    let ns : List (Bor Name) = c.in-Some.names.items in
    let p : Path = names ns in
    let held : List HeldRow = c.in_ok-held.held.items in
    let left : List Shown = wanted_all c.args.rows.now c.in_ok-wanted.wanted.items in
    let spelled = spelled_is c.args.at.now c.in_ok-names.field-0 c.in-Some.names c.in-Some.is c.in_ok-names.ensures in
    let are : held_all d held ≡ held_of d p c.args.mounted.now.rows =
    c.in_ok-held.ensures.shown d ∙ ap (λ (l : List (Bor Name)). held_of d (names l) (rows_listed c.rows.result)) c.deref.ensures.value
    ∙ ap (λ (l : List Row). held_of d p l) c.rows.ensures in
    IfOk-weaker c.planned_of.result _ _
    (λ plan planned wanted of_rows.
    let is : plan_asked c.args.rows.now plan.items ≡ in_texts (sync_commands p (held_all d held) left) =
    planned
    ∙ ap (λ (l : List (Bor Name)). in_texts (sync_commands (names l) (held_all d c.deref-3.result.now) (wanted_all c.args.rows.now c.deref-4.result.now)))
    c.deref-2.ensures.value
    ∙ ap (λ (l : List HeldRow). in_texts (sync_commands p (held_all d l) (wanted_all c.args.rows.now c.deref-4.result.now))) c.deref-3.ensures.value
    ∙ ap (λ (l : List WantedRow). in_texts (sync_commands p (held_all d held) (wanted_all c.args.rows.now l))) c.deref-4.ensures.value in
    sync_all c.args.at.now p c.args.rows.now (λ path. held_of d path c.args.mounted.now.rows) (held_all d held) left wanted plan.items spelled
    are (c.in_ok-wanted.ensures wanted of_rows) is)
    c.planned_of.ensures
