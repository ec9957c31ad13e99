-- All entries of the part are looked at.
use Rattle.std.proofs.Common.{◌<◌, length, subst, ◌∙◌, arith}
use Rattle.std.proofs.lemmas.Bool.Decides.{nat_tests}
use Rattle.lfs_fs.specs.Directory.{Part}
use Rattle.lfs_draft.proofs.OneNamed.{some_only}
use Rattle.lfs_draft.proofs.directory_edit.has_only.Goals as goal

pub returns-then-not-is_empty : goal.returns-then-not-is_empty
returns-then-not-is_empty c =
    let some : 0 < length c.part.inside.entries.items = grind (arith, nat_tests, c.is_empty.ensures, c.if-not-is_empty.true) in
    c.all_named.ensures
    ∙ some_only c.args.name.now c.args.part.now (subst (λ (p : Part). 0 < length p.entries) c.part.view_is some)
