use Rattle.std.proofs.Common.{◌≡◌, fold, map, take}
use Rattle.clap.specs.Words.{app_of, with_subcommand}
use Rattle.lfs_grammar.specs.Grammar.{shape_at}
use Rattle.lfs_grammar.proofs.grammar.with_commands.Given as goal

abbrev pub invariant-loop-row : goal.invariant-loop-row
invariant-loop-row l = app_of l.program ≡ fold with_subcommand (app_of l.fn.program) (map shape_at (take l.row-index l.rows))
