use Rattle.std.proofs.Common.{◌∙◌, sym, ap, ap₂}
use Rattle.clap.specs.Words.{App, app_of, with_subcommand}
use Rattle.lfs_grammar.specs.Grammar.{shape_at}
use Rattle.lfs_grammar.proofs.GrammarLemmas.{fold_row}
use Rattle.lfs_grammar.proofs.grammar.with_commands.Goals as goal

pub loop-row-preserved : goal.loop-row-preserved
loop-row-preserved c =
    let made = c.in_ok-clap_command.ensures in
    let start = app_of c.args.program in
    let more = fold_row with_subcommand shape_at start c.args.rows.now c.loop-row.row-index _ c.loop-row-test.true in
    c.in_ok-program.ensures.shape made.local
    ∙ ap₂ with_subcommand c.loop-row.invariant (ap (λ (a : App). a.top) made.app)
    ∙ sym more
