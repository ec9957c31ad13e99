use Rattle.std.proofs.Common.{rules, ◌≡◌, ◌∙◌, None, Option, Some, ap, codes, sym}
use Rattle.std.specs.Prelude.{option_map, unwrap_or}
use Rattle.std.proofs.lemmas.Option.{none-some}
use Rattle.clap.specs.Matches.{subcommand_name_of}
use Rattle.clap.specs.Words.{Text, first_of, found_of, rows_of, subcommand_rows_of}
use Rattle.clap.proofs.WalkLemmas.{first_value-rows}
use Rattle.lfs_grammar.proofs.WordLemmas.{names_command}
use Rattle.lfs_arguments.proofs.AutoLemmas.{auto_rows}
use Rattle.lfs_arguments.proofs.Handed.{none_there, some_weaker}
use Rattle.lfs_arguments.proofs.OptionLemmas.{text_read}
use Rattle.lfs_arguments.proofs.matching.auto_file.Goals as goal

pub returns-in_err-get_str-clause-none : goal.returns-in_err-get_str-clause-none
returns-in_err-get_str-clause-none c = λ none image says.
    let m = c.args.matches.now in
    let options = found_of c.in_ok-options.options.now in
    let rows = rows_of options in
    let called = c.in_ok-options.field-0-0.now in
    let name : subcommand_name_of m ≡ Some called = search rules in
    let has : option_map (λ p. p.1) (subcommand_rows_of m) ≡ Some rows = search rules in
    let is = names_command m called rows name has in
    let gone : None ≡ first_of c.args.option.now rows = c.in_err-get_str.ensures ∙ first_value-rows options c.args.option.now in
    none-some (codes "auto") (gone ∙ (auto_rows c.args.option.now c.args.id.now (subcommand_rows_of m) called rows image is says).0)

pub returns-then-eq-clause-some : goal.returns-then-eq-clause-some
returns-then-eq-clause-some c =
    let m = c.args.matches.now in
    let options = found_of c.in_ok-options.options.now in
    let rows = rows_of options in
    let called = c.in_ok-options.field-0-0.now in
    let name : subcommand_name_of m ≡ Some called = search rules in
    let has : option_map (λ p. p.1) (subcommand_rows_of m) ≡ Some rows = search rules in
    let is = names_command m called rows name has in
    let auto : c.in_ok-get_str.field-0.now ≡ codes "auto" = search rules in
    let block : first_of c.args.option.now rows ≡ Some (codes "auto") =
    sym (c.in_ok-get_str.ensures ∙ first_value-rows options c.args.option.now) ∙ ap (λ (t : Text). Some t) auto in
    some_weaker c.get_str-then-eq.result _ _ (λ image text. (called, rows, is, block, text))
    (text_read options c.args.id.now c.get_str-then-eq.result c.get_str-then-eq.ensures)

pub returns-then-eq-clause-none : goal.returns-then-eq-clause-none
returns-then-eq-clause-none c = λ none image says.
    let m = c.args.matches.now in
    let options = found_of c.in_ok-options.options.now in
    let rows = rows_of options in
    let called = c.in_ok-options.field-0-0.now in
    let name : subcommand_name_of m ≡ Some called = search rules in
    let has : option_map (λ p. p.1) (subcommand_rows_of m) ≡ Some rows = search rules in
    let is = names_command m called rows name has in
    let gone : None ≡ first_of c.args.id.now rows =
    none_there options c.args.id.now c.get_str-then-eq.result c.get_str-then-eq.ensures none in
    none-some image (gone ∙ (auto_rows c.args.option.now c.args.id.now (subcommand_rows_of m) called rows image is says).1)

pub returns-else-eq-clause-none : goal.returns-else-eq-clause-none
returns-else-eq-clause-none c = λ none image says.
    let m = c.args.matches.now in
    let options = found_of c.in_ok-options.options.now in
    let rows = rows_of options in
    let called = c.in_ok-options.field-0-0.now in
    let name : subcommand_name_of m ≡ Some called = search rules in
    let has : option_map (λ p. p.1) (subcommand_rows_of m) ≡ Some rows = search rules in
    let is = names_command m called rows name has in
    let block : Some c.in_ok-get_str.field-0.now ≡ Some (codes "auto") =
    c.in_ok-get_str.ensures ∙ first_value-rows options c.args.option.now
    ∙ (auto_rows c.args.option.now c.args.id.now (subcommand_rows_of m) called rows image is says).0 in
    let auto : c.in_ok-get_str.field-0.now ≡ codes "auto" = ap (λ (o : Option Text). unwrap_or o (codes "auto")) block in
    let other : c.in_ok-get_str.field-0.now ≡ codes "auto" → ⊥ = search rules in
    other auto
