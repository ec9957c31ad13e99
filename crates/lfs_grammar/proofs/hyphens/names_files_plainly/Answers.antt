use Rattle.std.proofs.Common.{rules, ◌≡◌, ◌∙◌, Bool, Some, true, false, sym, ap}
use Rattle.std.specs.Prelude.{◌&&◌, option_map}
use Rattle.clap.specs.Matches.{subcommand_name_of}
use Rattle.clap.specs.Words.{found_of, rows_of, subcommand_rows_of}
use Rattle.lfs_grammar.specs.Hyphens.{names_files_plainly}
use Rattle.lfs_grammar.proofs.WordLemmas.{names_command}
use Rattle.lfs_grammar.proofs.hyphens.names_files_plainly.Goals as goal

second : (a b r : Bool) → true ≡ a → r ≡ b → r ≡ (a && b)
second true b r e is = is
second false b r e is = absurd (cc)

first : (a b : Bool) → false ≡ a → false ≡ (a && b)
first true b e = absurd (cc)
first false b e = e

pub returns-then-is_plain : goal.returns-then-is_plain
returns-then-is_plain c =
    let m = c.args.matches.now in
    let rows = rows_of (found_of c.in-Some.options.now) in
    let name : subcommand_name_of m ≡ Some c.in-Some.field-0-0.now = search rules in
    let has : option_map (λ p. p.1) (subcommand_rows_of m) ≡ Some rows = search rules in
    second _ _ c.are_plain.result c.if-is_plain.ensures c.are_plain.ensures
    ∙ ap names_files_plainly (sym (names_command m c.in-Some.field-0-0.now rows name has))

pub returns-else-is_plain : goal.returns-else-is_plain
returns-else-is_plain c =
    let m = c.args.matches.now in
    let rows = rows_of (found_of c.in-Some.options.now) in
    let name : subcommand_name_of m ≡ Some c.in-Some.field-0-0.now = search rules in
    let has : option_map (λ p. p.1) (subcommand_rows_of m) ≡ Some rows = search rules in
    c.if-is_plain.false ∙ first _ _ c.if-is_plain.ensures
    ∙ ap names_files_plainly (sym (names_command m c.in-Some.field-0-0.now rows name has))
