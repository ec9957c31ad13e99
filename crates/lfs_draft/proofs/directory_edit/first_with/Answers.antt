-- No other part than the last one has the name, where this does.
use Rattle.std.proofs.Common.{◌<◌, ◌-◌, length, refl, sym, ◌∙◌, arith}
use Rattle.std.proofs.lemmas.Bool.Decides.{nat_tests}
use Rattle.lfs_draft.proofs.LastNames.{place_is_last}
use Rattle.lfs_draft.proofs.directory_edit.first_with.Goals as goal

pub returns-then-has_name : goal.returns-then-has_name
returns-then-has_name c =
    let some : 0 < length c.args.parts.now = grind (arith, nat_tests, c.is_empty.ensures, c.if-is_empty.false) in
    place_is_last c.args.name.now c.args.parts.now c.index-parts-last.result (length c.args.parts.now - 1) some refl c.index-parts-last.is
    c.requires (sym c.has_name.ensures ∙ c.if-has_name.true)
