-- What stands at a path of the outline stands there in the tree.
use Rattle.std.proofs.Common.{◌≡◌, Bor, List, [], Some, ap, length, subst, sym, ◌∙◌}
use Rattle.std.specs.Vec.{vec_len}
use Rattle.std.proofs.lemmas.List.{nil_from_length, length-map}
use Rattle.std.proofs.lemmas.Bool.{eqb-true, eqb-false}
use Rattle.std.proofs.lemmas.Result.{err_from_is_err_and}
use Rattle.lfs_command.specs.Verdict.{first_refusal}
use Rattle.lfs_fs.specs.Path.{Path}
use Rattle.lfs_fs.specs.Sound.{IsSound}
use Rattle.lfs_fs.specs.Tree.{entry_at}
use Rattle.lfs_fs.specs.Volume.{Volume}
use Rattle.lfs_law.specs.ParentChecks.{entry_checks}
use Rattle.lfs_meta.specs.Name.{Name}
use Rattle.lfs_request.proofs.StandingLemmas.{names, refused_listing, root_listed, there_listed}
use Rattle.lfs_request.proofs.standing.names_there.Goals as goal

pub entry_there-requires : goal.entry_there-requires
entry_there-requires g c =
    subst IsSound (sym (c.outline.ensures ∙ c.requires.outline)) (c.outlines_are_sound.ensures c.requires.volume c.requires.sound)

pub returns-then-is_empty-clause-there : goal.returns-then-is_empty-clause-there
returns-then-is_empty-clause-there g c =
    let at = c.in_ok-names.names.items in
    let path : Path = names at in
    let none : at ≡ [] = nil_from_length at (sym c.in_ok-names.names.ok.0
    ∙ eqb-true (vec_len c.in_ok-names.names) 0 (sym c.is_empty.ensures ∙ c.if-is_empty.true)) in
    root_listed c.rows_show_the_tree.ensures (g.B.Blocks.disk c.args.disk.now)
    c.size-within_limits.ensures.disk c.args.mounted.now c.requires c.args.path.now path c.in_ok-names.ensures.spelled (ap names none)

pub returns-in_err-entry_there-clause-refused : goal.returns-in_err-entry_there-clause-refused
returns-in_err-entry_there-clause-refused g c =
    let at = c.in_ok-names.names.items in
    let path : Path = names at in
    let p = err_from_is_err_and c.from_residual-in_err-entry_there.result c.from_residual-in_err-entry_there.ensures.1 in
    let walked : first_refusal (entry_checks c.args.mounted.now.outline path) ≡ Some c.in_err-entry_there.field-0.0 =
    ap (λ (v : Volume). first_refusal (entry_checks v path)) (sym c.outline.ensures)
    ∙ ap (λ (ns : List (Bor Name)). first_refusal (entry_checks c.outline.result.now (names ns))) (sym c.deref.ensures.value)
    ∙ c.in_err-entry_there.ensures.refused in
    rw (p.1, p.2) (
    refused_listing c.rows_show_the_tree.ensures (g.B.Blocks.disk c.args.disk.now)
    c.size-within_limits.ensures.disk c.args.mounted.now c.requires c.args.path.now path c.in_ok-names.ensures.spelled
    c.outlines_are_judged_alike.ensures.judged c.in_err-entry_there.field-0.0
    (λ root. eqb-false (vec_len c.in_ok-names.names) 0 (sym c.is_empty.ensures ∙ c.if-is_empty.false)
    (c.in_ok-names.names.ok.0 ∙ sym (length-map at (λ (n : Bor Name). n.now)) ∙ ap length root))
    walked)

pub returns-clause-there : goal.returns-clause-there
returns-clause-there g c =
    let at = c.in_ok-names.names.items in
    let path : Path = names at in
    let there : entry_at c.args.mounted.now.outline path ≡ Some c.in_ok-entry_there.field-0.now =
    ap (λ (v : Volume). entry_at v path) (sym c.outline.ensures)
    ∙ ap (λ (ns : List (Bor Name)). entry_at c.outline.result.now (names ns)) (sym c.deref.ensures.value)
    ∙ c.in_ok-entry_there.ensures.there in
    there_listed c.rows_show_the_tree.ensures (g.B.Blocks.disk c.args.disk.now)
    c.size-within_limits.ensures.disk c.args.mounted.now c.requires c.args.path.now path c.in_ok-names.ensures.spelled _ there
