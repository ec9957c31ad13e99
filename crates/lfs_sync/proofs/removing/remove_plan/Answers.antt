use Rattle.std.proofs.Common.{◌≡◌, ap, ◌∙◌, [], List, Bor, length, arith}
use Rattle.std.specs.Vec.{vec_len}
use Rattle.std.proofs.lemmas.Result.{IfOk-weaker}
use Rattle.lfs_meta.specs.Name.{Name}
use Rattle.lfs_fs.specs.Listed.{rows_listed}
use Rattle.lfs_fs.specs.Path.{Path}
use Rattle.lfs_fs.specs.Row.{Row}
use Rattle.lfs_sync.specs.Planned.{in_texts, plan_asked}
use Rattle.lfs_sync.specs.Shown.{held_of}
use Rattle.lfs_listing.specs.Below.{names}
use Rattle.lfs_sync.specs.Sides.{held_all, held_shown}
use Rattle.lfs_sync.specs.Synced.{removals}
use Rattle.lfs_sync.specs.declared.held_row.HeldRow.{HeldRow}
use Rattle.lfs_sync.proofs.EndLemmas.{remove_all, some_mapped, spelled_is}
use Rattle.lfs_sync.proofs.removing.remove_plan.Goals as goal

pub returns : goal.returns
returns c =
    let ns : List (Bor Name) = c.in-Some.names.items in
    let p : Path = names ns in
    let spelled = spelled_is c.args.at.now c.in_ok-names.field-0 c.in-Some.names c.in-Some.is c.in_ok-names.ensures in
    let many : vec_len c.in-Some.names ≡ length ns = omega arith in
    let held : List HeldRow = c.in_ok-held.held.items in
    let long : vec_len c.in_ok-held.held ≡ length held = omega arith in
    IfOk-weaker c.removals_of.result _ _
    (λ plan planned d rows.
    let are : held_all d held ≡ held_of d p c.args.mounted.now.rows =
    c.in_ok-held.ensures.shown d ∙ ap (λ (l : List (Bor Name)). held_of d (names l) (rows_listed c.rows.result)) c.deref.ensures.value
    ∙ ap (λ (l : List Row). held_of d p l) c.rows.ensures in
    let removed : plan_asked rows plan.items ≡ in_texts (removals p (held_all d held) []) =
    planned d rows ∙ ap (λ (l : List (Bor Name)). in_texts (removals (names l) (held_all d c.deref-3.result.now) [])) c.deref-2.ensures.value
    ∙ ap (λ (l : List HeldRow). in_texts (removals p (held_all d l) [])) c.deref-3.ensures.value in
    remove_all c.args.at.now p rows (λ path. held_of d path c.args.mounted.now.rows) (held_all d held) (plan_asked rows plan.items) spelled
    (some_mapped (λ (n : Bor Name). n.now) ns (vec_len c.in-Some.names) many c.if-is_empty.ensures) are
    (some_mapped (held_shown d) held (vec_len c.in_ok-held.held) long c.if-is_empty-2.ensures) removed)
    c.removals_of.ensures
