use Rattle.std.proofs.Common.{rules, ◌≡◌, ◌∙◌, List, [], Option, Some, ap, codes, refl, subst, sym}
use Rattle.std.specs.Option.{option_map_or}
use Rattle.std.specs.Prelude.{option_map}
use Rattle.clap.specs.Matches.{subcommand_name_of}
use Rattle.clap.specs.Words.{Row, Text, found_of, rows_of, subcommand_rows_of}
use Rattle.lfs_grammar.specs.Grammar.{NamesCommand, word}
use Rattle.lfs_grammar.proofs.CommandLemmas.{said_of}
use Rattle.lfs_grammar.proofs.WordLemmas.{names_command}
use Rattle.lfs_arguments.proofs.Handed.{some_weaker}
use Rattle.lfs_arguments.proofs.OptionLemmas.{text_read, text_there}
use Rattle.lfs_arguments.proofs.matching.flash_asked.Goals as goal

pub returns-then-eq-clause-some : goal.returns-then-eq-clause-some
returns-then-eq-clause-some c =
    let m = c.args.matches.now in
    let options = found_of c.in_ok-name.options.now in
    let rows = rows_of options in
    let name : subcommand_name_of m ≡ Some (codes "find") = search rules in
    let has : option_map (λ p. p.1) (subcommand_rows_of m) ≡ Some rows = search rules in
    let is = names_command m (codes "find") rows name has in
    some_weaker c.get_str.result _ _ (λ flash text. (rows, is, text)) (text_read options (codes "flash") c.get_str.result c.get_str.ensures)

pub returns-then-eq-clause-none : goal.returns-then-eq-clause-none
returns-then-eq-clause-none c = λ none names finds.
    let m = c.args.matches.now in
    let options = found_of c.in_ok-name.options.now in
    let rows = rows_of options in
    let name : subcommand_name_of m ≡ Some (codes "find") = search rules in
    let has : option_map (λ p. p.1) (subcommand_rows_of m) ≡ Some rows = search rules in
    let is = names_command m (codes "find") rows name has in
    let said = said_of (codes "find") (codes "find") rows refl (subst NamesCommand is names) in
    text_there options (codes "flash") c.get_str.result (word (codes "flash")) c.get_str.ensures none refl (said.0 refl)

pub returns-else-eq-clause-none : goal.returns-else-eq-clause-none
returns-else-eq-clause-none c = λ none names finds.
    let m = c.args.matches.now in
    let called = c.in_ok-name.name.now in
    let rows = rows_of (found_of c.in_ok-name.options.now) in
    let name : subcommand_name_of m ≡ Some called = search rules in
    let has : option_map (λ p. p.1) (subcommand_rows_of m) ≡ Some rows = search rules in
    let same : called ≡ codes "find" =
    ap (λ (o : Option (Text × List Row)). option_map_or (λ p. p.0) o []) (sym (names_command m called rows name has) ∙ finds.1) in
    let other : called ≡ codes "find" → ⊥ = search rules in
    other same
