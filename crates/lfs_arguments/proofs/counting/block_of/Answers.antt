use Rattle.std.proofs.Common.{codes, inr, subst}
use Rattle.std.proofs.lemmas.Result.{IfErr-weaker, IfOk-weaker}
use Rattle.clap.specs.Words.{found_of, rows_of}
use Rattle.lfs_arguments.specs.Words.{IsBlockUsageError}
use Rattle.lfs_arguments.specs.declared.usage_error.UsageError.{UsageError}
use Rattle.lfs_arguments.proofs.counting.block_of.Goals as goal

pub returns-clause-block : goal.returns-clause-block
returns-clause-block c =
    IfOk-weaker c.block_in.result _ _ (λ size says. ((c.in_ok-text.text.now, c.in_ok-text.ensures.some, says.0), says.1))
    c.block_in.ensures.block

pub returns-clause-refused : goal.returns-clause-refused
returns-clause-refused c =
    let rows = rows_of (found_of c.args.options.now) in
    IfErr-weaker c.block_in.result _ _ (λ usage_error why. inr (why rows c.in_ok-text.ensures.some)) c.block_in.ensures.refused

pub returns-clause-unsaid : goal.returns-clause-unsaid
returns-clause-unsaid c =
    let rows = rows_of (found_of c.args.options.now) in
    IfErr-weaker c.block_in.result _ _ (λ usage_error why. λ is rule named said.
    subst (λ (m : UsageError). IsBlockUsageError m rows (codes "block") c.args.stated) is (why rows c.in_ok-text.ensures.some))
    c.block_in.ensures.refused
