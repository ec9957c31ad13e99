use Rattle.std.proofs.Common.{◌≡◌, false, map, take}
use Rattle.clap.specs.Words.{app_of}
use Rattle.clap.specs.declared.builder.command.Command.TheViews.{out-Command as fields_of}
use Rattle.lfs_grammar.specs.Grammar.{command, rule_at}
use Rattle.lfs_grammar.proofs.grammar.clap_command.Given as goal

abbrev pub invariant-loop-argument : goal.invariant-loop-argument
invariant-loop-argument l = record {
  app : app_of l.command ≡ command l.row.name.now (map rule_at (take l.argument-index l.argument-items));
  local : (fields_of l.command).has_globals ≡ false;
}
