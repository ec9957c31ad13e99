use Rattle.std.proofs.Common.{rules, ◌≡◌, ◌∙◌, None, Option, Some, ap, codes, false}
use Rattle.std.specs.Option.{option_map_or}
use Rattle.std.specs.Str.{bytes_eq}
use Rattle.clap.specs.Words.{Text, first_of, found_of, rows_of}
use Rattle.clap.proofs.WalkLemmas.{first_value-rows}
use Rattle.lfs_arguments.proofs.options.said.Goals as goal

pub returns-in-Some : goal.returns-in-Some
returns-in-Some c =
    let options = found_of c.args.options.now in
    let is : Some c.in-Some.text.now ≡ first_of c.args.id.now (rows_of options) =
    c.in-Some.ensures ∙ first_value-rows options c.args.id.now in
    let says : c.eq.result ≡ bytes_eq c.in-Some.text.now (codes "true") = search rules in
    says ∙ ap (λ (o : Option Text). option_map_or (λ t. bytes_eq t (codes "true")) o false) is

pub returns-in-None : goal.returns-in-None
returns-in-None c =
    let options = found_of c.args.options.now in
    let is : None ≡ first_of c.args.id.now (rows_of options) = c.in-None.ensures ∙ first_value-rows options c.args.id.now in
    ap (λ (o : Option Text). option_map_or (λ t. bytes_eq t (codes "true")) o false) is
