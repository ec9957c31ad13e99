use Rattle.std.proofs.Common.{rules, ◌≡◌, Some, inl, inr, subst}
use Rattle.std.specs.Prelude.{option_map}
use Rattle.std.proofs.lemmas.Result.{IfErr-weaker, IfOk-weaker}
use Rattle.clap.specs.Matches.{subcommand_name_of}
use Rattle.clap.specs.Words.{found_of, rows_of, subcommand_rows_of}
use Rattle.lfs_grammar.specs.Grammar.{NamesCommand}
use Rattle.lfs_grammar.proofs.WordLemmas.{names_command}
use Rattle.lfs_arguments.proofs.matching.request_said.Goals as goal

pub returns-clause-some : goal.returns-clause-some
returns-clause-some c =
    let m = c.args.matches.now in
    let called = c.in-Some.name.now in
    let rows = rows_of (found_of c.in-Some.options.now) in
    let name : subcommand_name_of m ≡ Some called = search rules in
    let has : option_map (λ p. p.1) (subcommand_rows_of m) ≡ Some rows = search rules in
    let is = names_command m called rows name has in
    IfOk-weaker c.request_of.result _ _ (λ request asks. (called, rows, is, asks)) c.request_of.ensures.some

pub returns-clause-within : goal.returns-clause-within
returns-clause-within c =
    let m = c.args.matches.now in
    let called = c.in-Some.name.now in
    let rows = rows_of (found_of c.in-Some.options.now) in
    let name : subcommand_name_of m ≡ Some called = search rules in
    let has : option_map (λ p. p.1) (subcommand_rows_of m) ≡ Some rows = search rules in
    let is = names_command m called rows name has in
    IfOk-weaker c.request_of.result _ _ (λ request within names. within (subst NamesCommand is names)) c.request_of.ensures.within

pub returns-clause-refused : goal.returns-clause-refused
returns-clause-refused c =
    let m = c.args.matches.now in
    let called = c.in-Some.name.now in
    let rows = rows_of (found_of c.in-Some.options.now) in
    let name : subcommand_name_of m ≡ Some called = search rules in
    let has : option_map (λ p. p.1) (subcommand_rows_of m) ≡ Some rows = search rules in
    let is = names_command m called rows name has in
    IfErr-weaker c.request_of.result _ _ (λ usage_error why. elim why [
      | inl unsaid ↦ inl unsaid
      | inr (inl memory) ↦ inr (inl memory)
      | inr (inr missaid) ↦ inr (inr (called, rows, is, missaid))
    ]) c.request_of.ensures.refused

pub returns-clause-unsaid : goal.returns-clause-unsaid
returns-clause-unsaid c =
    let m = c.args.matches.now in
    let called = c.in-Some.name.now in
    let rows = rows_of (found_of c.in-Some.options.now) in
    let name : subcommand_name_of m ≡ Some called = search rules in
    let has : option_map (λ p. p.1) (subcommand_rows_of m) ≡ Some rows = search rules in
    let is = names_command m called rows name has in
    IfErr-weaker c.request_of.result _ _ (λ usage_error none unsaid names. (called, rows, is, none unsaid (subst NamesCommand is names)))
    c.request_of.ensures.unsaid
