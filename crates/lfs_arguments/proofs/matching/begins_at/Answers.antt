use Rattle.std.proofs.Common.{rules, ◌≡◌, ℕ, Some, subst, sym}
use Rattle.std.specs.Prelude.{option_map}
use Rattle.clap.specs.Matches.{subcommand_name_of}
use Rattle.clap.specs.Words.{found_of, rows_of, subcommand_rows_of}
use Rattle.lfs_grammar.proofs.WordLemmas.{names_command}
use Rattle.lfs_arguments.specs.Words.{BeginsAt}
use Rattle.lfs_arguments.proofs.AutoLemmas.{begins}
use Rattle.lfs_arguments.proofs.matching.begins_at.Goals as goal

pub returns-in-Some : goal.returns-in-Some
returns-in-Some c =
    let m = c.args.matches.now in
    let rows = rows_of (found_of c.in-Some.options.now) in
    let called = c.in-Some.field-0-0.now in
    let name : subcommand_name_of m ≡ Some called = search rules in
    let has : option_map (λ p. p.1) (subcommand_rows_of m) ≡ Some rows = search rules in
    let is = names_command m called rows name has in
    subst (λ (place : ℕ). BeginsAt (subcommand_rows_of m) place) (sym c.unwrap_or.ensures)
    (begins (subcommand_rows_of m) called rows c.place_said.result is c.place_said.ensures.some c.place_said.ensures.none)
