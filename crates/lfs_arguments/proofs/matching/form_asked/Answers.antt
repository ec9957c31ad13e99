-- The options of the command that is named say the form.
use Rattle.std.proofs.Common.{rules, ◌≡◌, ◌∙◌, Option, Some, List, ap, sym}
use Rattle.std.specs.Prelude.{option_map}
use Rattle.clap.specs.Matches.{subcommand_name_of}
use Rattle.clap.specs.Words.{Row, Text, found_of, rows_of, subcommand_rows_of}
use Rattle.lfs_grammar.proofs.WordLemmas.{names_command}
use Rattle.lfs_arguments.specs.Words.{form_asked}
use Rattle.lfs_arguments.proofs.matching.form_asked.Goals as goal

pub returns-in-Some : goal.returns-in-Some
returns-in-Some c =
    let m = c.args.matches.now in
    let rows = rows_of (found_of c.in-Some.options.now) in
    let called = c.in-Some.field-0-0.now in
    let name : subcommand_name_of m ≡ Some called = search rules in
    let has : option_map (λ p. p.1) (subcommand_rows_of m) ≡ Some rows = search rules in
    c.form_of.ensures ∙ ap (λ (named : Option (Text × List Row)). form_asked named) (sym (names_command m called rows name has))
