use Rattle.std.proofs.Common.{rules, ◌≡◌, ◌∙◌, Some, None, ap, codes}
use Rattle.std.specs.Prelude.{not}
use Rattle.clap.specs.Words.{first_of, found_of, rows_of}
use Rattle.clap.proofs.WalkLemmas.{first_value-rows}
use Rattle.lfs_grammar.specs.Hyphens.{begins_with, is_plain_name}
use Rattle.lfs_grammar.proofs.hyphens.is_plain.Goals as goal

pub returns-in-Some : goal.returns-in-Some
returns-in-Some c =
    let name = c.in-Some.name.now in
    let options = found_of c.args.options.now in
    let is : Some name ≡ first_of c.args.id.now (rows_of options) = c.in-Some.ensures ∙ first_value-rows options c.args.id.now in
    let starts : c.starts_with.result ≡ begins_with name (codes "-") = search rules in
    ap not starts ∙ ap is_plain_name is

pub returns-in-None : goal.returns-in-None
returns-in-None c =
    let options = found_of c.args.options.now in
    let is : None ≡ first_of c.args.id.now (rows_of options) = c.in-None.ensures ∙ first_value-rows options c.args.id.now in
    ap is_plain_name is
