use Rattle.std.proofs.Common.{rules, ◌≡◌, ◌∙◌, List, [], Option, Some, ap, codes, sym}
use Rattle.std.specs.Option.{option_map_or}
use Rattle.std.specs.Prelude.{option_map}
use Rattle.clap.specs.Matches.{subcommand_name_of}
use Rattle.clap.specs.Words.{Row, Text, found_of, rows_of, subcommand_rows_of}
use Rattle.clap.proofs.WalkLemmas.{raw_values-rows}
use Rattle.lfs_grammar.proofs.WordLemmas.{names_command}
use Rattle.lfs_arguments.proofs.matching.faults_asked.Goals as goal

pub returns-then-eq-clause-some : goal.returns-then-eq-clause-some
returns-then-eq-clause-some c =
    let m = c.args.matches.now in
    let found = found_of c.in_ok-name.options.now in
    let rows = rows_of found in
    let name : subcommand_name_of m ≡ Some (codes "explain") = search rules in
    let has : option_map (λ p. p.1) (subcommand_rows_of m) ≡ Some rows = search rules in
    (rows, names_command m (codes "explain") rows name has, c.get_strs.ensures ∙ raw_values-rows found (codes "fault"))

pub returns-else-eq-clause-none : goal.returns-else-eq-clause-none
returns-else-eq-clause-none c = λ none explains.
    let m = c.args.matches.now in
    let called = c.in_ok-name.name.now in
    let rows = rows_of (found_of c.in_ok-name.options.now) in
    let name : subcommand_name_of m ≡ Some called = search rules in
    let has : option_map (λ p. p.1) (subcommand_rows_of m) ≡ Some rows = search rules in
    let same : called ≡ codes "explain" =
    ap (λ (o : Option (Text × List Row)). option_map_or (λ p. p.0) o []) (sym (names_command m called rows name has) ∙ explains.1) in
    let other : called ≡ codes "explain" → ⊥ = search rules in
    other same
