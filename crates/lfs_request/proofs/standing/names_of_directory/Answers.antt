-- A directory at a path of the outline is one in the tree.
use Rattle.std.proofs.Common.{◌≡◌, Bor, List, [], Option, Some, ap, length, subst, sym, ◌∙◌}
use Rattle.std.specs.Prelude.{is_some}
use Rattle.std.specs.Vec.{vec_len}
use Rattle.std.proofs.lemmas.List.{nil_from_length, length-map}
use Rattle.std.proofs.lemmas.Bool.{eqb-true, eqb-false}
use Rattle.std.proofs.lemmas.Result.{err_from_is_err_and}
use Rattle.lfs_command.specs.Verdict.{first_refusal}
use Rattle.lfs_fs.specs.Entry.{Entry}
use Rattle.lfs_fs.specs.Path.{Path}
use Rattle.lfs_fs.specs.Sound.{IsSound}
use Rattle.lfs_fs.specs.Tree.{entry_at}
use Rattle.lfs_fs.specs.Volume.{Volume}
use Rattle.lfs_law.specs.ParentChecks.{entry_checks}
use Rattle.lfs_meta.specs.Body.{Pair}
use Rattle.lfs_meta.specs.Name.{Name}
use Rattle.lfs_request.proofs.StandingLemmas.{directory_there, file_there, names, nothing_there, root_there}
use Rattle.lfs_request.proofs.standing.names_of_directory.Goals as goal

pub entry_there-requires : goal.entry_there-requires
entry_there-requires g c =
    subst IsSound (sym (c.outline.ensures ∙ c.requires.outline)) (c.outlines_are_sound.ensures c.requires.volume c.requires.sound)

pub returns-then-is_empty-clause-there : goal.returns-then-is_empty-clause-there
returns-then-is_empty-clause-there g c =
    let at = c.in_ok-at.at.items in
    let none : at ≡ [] = nil_from_length at (sym c.in_ok-at.at.ok.0
    ∙ eqb-true (vec_len c.in_ok-at.at) 0 (sym c.is_empty.ensures ∙ c.if-is_empty.true)) in
    root_there c.rows_show_the_tree.ensures (g.B.Blocks.disk c.args.disk.now)
    c.size-within_limits.ensures.disk c.args.mounted.now c.requires c.args.path.now (names at) c.in_ok-at.ensures.spelled (ap names none)

pub returns-in_err-entry-clause-refused : goal.returns-in_err-entry-clause-refused
returns-in_err-entry-clause-refused g c =
    let at = c.in_ok-at.at.items in
    let path : Path = names at in
    let p = err_from_is_err_and c.from_residual-in_err-entry.result c.from_residual-in_err-entry.ensures.1 in
    let walked : first_refusal (entry_checks c.args.mounted.now.outline path) ≡ Some c.in_err-entry.field-0.0 =
    ap (λ (v : Volume). first_refusal (entry_checks v path)) (sym c.outline.ensures)
    ∙ ap (λ (ns : List (Bor Name)). first_refusal (entry_checks c.outline.result.now (names ns))) (sym c.deref.ensures.value)
    ∙ c.in_err-entry.ensures.refused in
    rw (p.1, p.2) (
    nothing_there c.rows_show_the_tree.ensures (g.B.Blocks.disk c.args.disk.now)
    c.size-within_limits.ensures.disk c.args.mounted.now c.requires c.args.path.now path c.in_ok-at.ensures.spelled
    c.outlines_are_judged_alike.ensures.judged c.in_err-entry.field-0.0
    (λ root. eqb-false (vec_len c.in_ok-at.at) 0 (sym c.is_empty.ensures ∙ c.if-is_empty.false)
    (c.in_ok-at.at.ok.0 ∙ sym (length-map at (λ (n : Bor Name). n.now)) ∙ ap length root))
    walked)

pub returns-then-is_none-clause-refused : goal.returns-then-is_none-clause-refused
returns-then-is_none-clause-refused g c =
    let path : Path = names c.in_ok-at.at.items in
    let entry : Entry = c.in_ok-entry.entry.now in
    let there : entry_at c.args.mounted.now.outline path ≡ Some entry =
    ap (λ (v : Volume). entry_at v path) (sym c.outline.ensures)
    ∙ ap (λ (ns : List (Bor Name)). entry_at c.outline.result.now (names ns)) (sym c.deref.ensures.value)
    ∙ c.in_ok-entry.ensures.there in
    file_there c.rows_show_the_tree.ensures (g.B.Blocks.disk c.args.disk.now)
    c.size-within_limits.ensures.disk c.args.mounted.now c.requires c.args.path.now path c.in_ok-at.ensures.spelled entry there
    (ap (λ (o : Option Pair). is_some o) (sym c.target.ensures) ∙ c.if-is_none.ensures)

pub returns-clause-there : goal.returns-clause-there
returns-clause-there g c =
    let path : Path = names c.in_ok-at.at.items in
    let entry : Entry = c.in_ok-entry.entry.now in
    let there : entry_at c.args.mounted.now.outline path ≡ Some entry =
    ap (λ (v : Volume). entry_at v path) (sym c.outline.ensures)
    ∙ ap (λ (ns : List (Bor Name)). entry_at c.outline.result.now (names ns)) (sym c.deref.ensures.value)
    ∙ c.in_ok-entry.ensures.there in
    directory_there c.rows_show_the_tree.ensures (g.B.Blocks.disk c.args.disk.now)
    c.size-within_limits.ensures.disk c.args.mounted.now c.requires c.args.path.now path c.in_ok-at.ensures.spelled entry there
    (ap (λ (o : Option Pair). is_some o) (sym c.target.ensures) ∙ c.if-is_none.ensures)
