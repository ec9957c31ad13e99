-- No part has a greater name where the name comes last.
use Rattle.std.proofs.Common.{◌≡◌, ◌<◌, length, ap, sym, ◌∙◌, arith}
use Rattle.std.specs.Vec.{vec_len}
use Rattle.std.proofs.lemmas.Bool.{eqb-false}
use Rattle.lfs_fs.specs.declared.outline_directory.OutlineParts.{OutlineParts}
use Rattle.lfs_fs.specs.Directory.{Directory}
use Rattle.lfs_draft.proofs.LastNames.{first_not_greater}
use Rattle.lfs_draft.proofs.directory_edit.belongs_first.Goals as goal

pub returns-then-comes_last : goal.returns-then-comes_last
returns-then-comes_last c =
    let more : c.deref.result.now.more.items ≡ c.args.directory.now.more =
    ap (λ (ps : OutlineParts). ps.more.items) c.deref.ensures ∙ ap (λ (d : Directory). d.more) c.directory.view_is in
    let none = eqb-false (vec_len c.deref.result.now.more) 0 (sym c.is_empty.ensures ∙ c.if-is_empty.false) in
    let some : 0 < length c.args.directory.now.more = omega (arith, none, c.deref.result.now.more.ok.0, ap length more) in
    (some, first_not_greater c.names_are_ordered.ensures c.args.name.now c.args.directory.now (c.comes_last.ensures c.if-comes_last.true))
