-- What stands at a path of the outline is what the tree has there.
use Rattle.std.proofs.Common.{◌≡◌, Bool, ℕ, Option, Result, Ok, Err, List, [], Some, ap, sym, ◌∙◌, map, length, Bor, subst}
use Rattle.std.specs.Vec.{vec_len}
use Rattle.std.proofs.lemmas.List.{nil_from_length, length-map}
use Rattle.std.proofs.lemmas.Bool.{eqb-true, eqb-false}
use Rattle.std.proofs.lemmas.Result.{IfErr-weaker, err_from_is_err_and}
use Rattle.std.specs.Prelude.{MatchResult}
use Rattle.std.specs.Io.KnownBytes.{Keeps}
use Rattle.lfs_block.specs.Disk.{Disk}
use Rattle.lfs_meta.specs.Attribute.{Attributes}
use Rattle.lfs_fs.specs.Tree.{File}
use Rattle.lfs_command.specs.declared.refusal.Refusal.{Refusal}
use Rattle.lfs_sink.specs.Send.{Sends}
use Rattle.lfs_meta.specs.Name.{Name}
use Rattle.lfs_fs.specs.Entry.{Entry, Body}
use Rattle.lfs_fs.specs.Path.{Path}
use Rattle.lfs_fs.specs.RowShown.{HasBlocks, shown_body}
use Rattle.lfs_fs.specs.Sound.{IsSound}
use Rattle.lfs_fs.specs.Tree.{entry_at}
use Rattle.lfs_fs.specs.Volume.{Volume}
use Rattle.lfs_law.specs.ParentChecks.{entry_checks}
use Rattle.lfs_command.specs.Verdict.{first_refusal}
use Rattle.lfs_step.specs.Contents.{IsContents}
use Rattle.lfs_step.specs.Sent.{SendsContents}
use Rattle.lfs_step.proofs.ContentsLemmas.{refused_root, refused_missing, has_blocks, found_contents, refused_contents}
use Rattle.lfs_step.proofs.contents.send_file.Goals as goal

pub returns-then-is_empty-clause-refused : goal.returns-then-is_empty-clause-refused
returns-then-is_empty-clause-refused g c =
    let names = c.in_ok-names.names.items in
    let path : Path = map (λ (n : Bor Name). n.now) names in
    let none : names ≡ [] = nil_from_length names (sym c.in_ok-names.names.ok.0
    ∙ eqb-true (vec_len c.in_ok-names.names) 0 (sym c.is_empty.ensures ∙ c.if-is_empty.true)) in
    refused_root c.rows_show_the_tree.ensures (g.B.Blocks.disk c.args.disk.now)
    c.size-within_limits.ensures.disk c.args.mounted.now c.requires.mounted c.args.path.now path c.in_ok-names.ensures.spelled
    (ap (map (λ (n : Bor Name). n.now)) none)

pub entry_there-requires : goal.entry_there-requires
entry_there-requires g c =
    subst IsSound (sym (c.outline.ensures ∙ c.requires.mounted.outline))
    (c.outlines_are_sound.ensures c.requires.mounted.volume c.requires.mounted.sound)

pub returns-in_err-entry-clause-refused : goal.returns-in_err-entry-clause-refused
returns-in_err-entry-clause-refused g c =
    let names = c.in_ok-names.names.items in
    let path : Path = map (λ (n : Bor Name). n.now) names in
    let p = err_from_is_err_and c.from_residual-in_err-entry.result c.from_residual-in_err-entry.ensures.1 in
    let walked : first_refusal (entry_checks c.args.mounted.now.outline path) ≡ Some c.in_err-entry.field-0.0 =
    ap (λ (v : Volume). first_refusal (entry_checks v path)) (sym c.outline.ensures)
    ∙ ap (λ (ns : List (Bor Name)). first_refusal (entry_checks c.outline.result.now (map (λ (n : Bor Name). n.now) ns)))
    (sym c.deref.ensures.value)
    ∙ c.in_err-entry.ensures.refused in
    rw (p.1, p.2) (
    refused_missing c.rows_show_the_tree.ensures (g.B.Blocks.disk c.args.disk.now)
    c.size-within_limits.ensures.disk c.args.mounted.now c.requires.mounted c.args.path.now path c.in_ok-names.ensures.spelled
    c.outlines_are_judged_alike.ensures.judged c.in_err-entry.field-0.0
    (λ root. eqb-false (vec_len c.in_ok-names.names) 0 (sym c.is_empty.ensures ∙ c.if-is_empty.false)
    (c.in_ok-names.names.ok.0 ∙ sym (length-map names (λ (n : Bor Name). n.now)) ∙ ap length root))
    walked)

pub send_body-requires-clause-blocks : goal.send_body-requires-clause-blocks
send_body-requires-clause-blocks g c =
    let path : Path = map (λ (n : Bor Name). n.now) c.in_ok-names.names.items in
    let at : entry_at c.args.mounted.now.outline path ≡ Some c.in_ok-entry.entry.now =
    ap (λ (v : Volume). entry_at v path) (sym c.outline.ensures)
    ∙ ap (λ (ns : List (Bor Name)). entry_at c.outline.result.now (map (λ (n : Bor Name). n.now) ns)) (sym c.deref.ensures.value)
    ∙ c.in_ok-entry.ensures.there in
    subst (λ (e : Entry). HasBlocks (g.B.Blocks.disk c.args.disk.now) e.body) (sym c.entry.view_is)
    (has_blocks c.rows_show_the_tree.ensures (g.B.Blocks.disk c.args.disk.now)
    c.size-within_limits.ensures.disk c.args.mounted.now c.requires.mounted c.args.path.now path c.in_ok-names.ensures.spelled
    c.in_ok-entry.entry.now at)

-- what was sent of a body are contents
sent_contents : (result : Result Bool Refusal) (d : Disk) (text : List ℕ) (body : Body) (old new : Option (List ℕ))
    → ((bytes : List ℕ) → ((a : Attributes) → shown_body d body a ≡ File bytes a) → IsContents d text bytes)
    → MatchResult result
    (λ complete. (bytes : List ℕ) × ((a : Attributes) → shown_body d body a ≡ File bytes a) × Sends complete old new bytes)
    (λ refusal. Keeps old new)
    → SendsContents result d text old new
sent_contents (Ok complete) d text body old new are (bytes, shown, sends) = (bytes, are bytes shown, sends)
sent_contents (Err refusal) d text body old new are keeps = keeps

pub returns-clause-sent : goal.returns-clause-sent
returns-clause-sent g c =
    let path : Path = map (λ (n : Bor Name). n.now) c.in_ok-names.names.items in
    let at : entry_at c.args.mounted.now.outline path ≡ Some c.in_ok-entry.entry.now =
    ap (λ (v : Volume). entry_at v path) (sym c.outline.ensures)
    ∙ ap (λ (ns : List (Bor Name)). entry_at c.outline.result.now (map (λ (n : Bor Name). n.now) ns)) (sym c.deref.ensures.value)
    ∙ c.in_ok-entry.ensures.there in
    let body = ap (λ (e : Entry). e.body) c.entry.view_is in
    sent_contents c.send_body.result (g.B.Blocks.disk c.args.disk.now) c.args.path.now _ (g.S.Sink.sent c.args.out.now)
    (g.S.Sink.sent c.send_body.new.out)
    (λ bytes same. found_contents c.rows_show_the_tree.ensures (g.B.Blocks.disk c.args.disk.now)
    c.size-within_limits.ensures.disk c.args.mounted.now c.requires.mounted c.args.path.now path c.in_ok-names.ensures.spelled
    c.in_ok-entry.entry.now at bytes (rw (sym body) same))
    c.send_body.ensures.sent

pub returns-clause-refused : goal.returns-clause-refused
returns-clause-refused g c =
    let path : Path = map (λ (n : Bor Name). n.now) c.in_ok-names.names.items in
    let at : entry_at c.args.mounted.now.outline path ≡ Some c.in_ok-entry.entry.now =
    ap (λ (v : Volume). entry_at v path) (sym c.outline.ensures)
    ∙ ap (λ (ns : List (Bor Name)). entry_at c.outline.result.now (map (λ (n : Bor Name). n.now) ns)) (sym c.deref.ensures.value)
    ∙ c.in_ok-entry.ensures.there in
    let body = ap (λ (e : Entry). e.body) c.entry.view_is in
    IfErr-weaker c.send_body.result _ _
    (λ refusal why. refused_contents c.rows_show_the_tree.ensures (g.B.Blocks.disk c.args.disk.now)
    c.size-within_limits.ensures.disk c.args.mounted.now c.requires.mounted c.args.path.now path c.in_ok-names.ensures.spelled
    c.in_ok-entry.entry.now at refusal (rw (sym body) why))
    c.send_body.ensures.refused
