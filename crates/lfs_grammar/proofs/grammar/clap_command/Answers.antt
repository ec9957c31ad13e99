use Rattle.std.proofs.Common.{rules, ◌∙◌, sym, ap₂}
use Rattle.clap.specs.Words.{new_app, with_rule}
use Rattle.lfs_grammar.specs.Grammar.{rule_at}
use Rattle.lfs_grammar.specs.declared.argument.Argument.TheVariants.{Block}
use Rattle.lfs_grammar.proofs.GrammarLemmas.{fold_row}
use Rattle.lfs_grammar.proofs.grammar.clap_command.Goals as goal

pub loop-argument-preserved : goal.loop-argument-preserved
loop-argument-preserved c =
    let row = c.args.row.now in
    let more =
    fold_row with_rule rule_at (new_app row.name.now) row.arguments.now c.loop-argument.argument-index Block c.loop-argument-test.true in
    record {
      app = c.in_ok-command.ensures.shape c.clap_argument.ensures.local
          ∙ ap₂ with_rule c.loop-argument.invariant.app c.clap_argument.ensures.rule
          ∙ sym more;
      local = search rules;
    }
