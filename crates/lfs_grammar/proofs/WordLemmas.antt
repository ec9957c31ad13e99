-- The command that words name, and its options.
use Rattle.std.proofs.Common.{◌≡◌, List, ℕ, Option, Some, None, ap₂}
use Rattle.std.specs.Prelude.{Box, option_map, box_value}
use Rattle.std.proofs.lemmas.Option.{none-some, same_Some}
use Rattle.clap.specs.Simple.{subcommand_rows}
use Rattle.clap.specs.Matches.{subcommand_name_of}
use Rattle.clap.specs.Words.{Row, subcommand_rows_of}
use Rattle.clap.specs.declared.parser.matches.ArgMatches.{ArgMatches}
use Rattle.clap.specs.declared.parser.matches.ArgMatches.TheViews.{out-ArgMatches, out-SubCommand}
use Rattle.clap.specs.declared.parser.matches.SubCommand.{SubCommand}

named : {Z : Type 0} (o : Option (Box SubCommand Z)) (name : List ℕ) (rows : List Row)
    → option_map (λ b. (out-SubCommand (box_value b)).name.now) o ≡ Some name → option_map (λ p. p.1) (subcommand_rows o) ≡ Some rows
    → subcommand_rows o ≡ Some (name, rows)
named None name rows is has = absurd (none-some name is)
named (Some b) name rows is has = ap₂ (λ (n : List ℕ) (rs : List Row). Some (n, rs)) (same_Some _ _ is) (same_Some _ _ has)

-- the command's name, and the rows of its options
pub names_command : (m : ArgMatches) (name : List ℕ) (rows : List Row)
    → subcommand_name_of m ≡ Some name → option_map (λ p. p.1) (subcommand_rows_of m) ≡ Some rows → subcommand_rows_of m ≡ Some (name, rows)
names_command m name rows is has = named (out-ArgMatches m).subcommand name rows is has
