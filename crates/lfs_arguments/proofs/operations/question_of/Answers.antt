use Rattle.std.proofs.Common.{codes, refl}
use Rattle.clap.specs.Words.{found_of, rows_of}
use Rattle.lfs_grammar.specs.Grammar.{word}
use Rattle.lfs_grammar.proofs.CommandLemmas.{said_of}
use Rattle.lfs_arguments.proofs.Handed.{handed_on}
use Rattle.lfs_arguments.proofs.operations.question_of.Goals as goal

pub returns-in_err-bytes-in-cat-clause-unsaid : goal.returns-in_err-bytes-in-cat-clause-unsaid
returns-in_err-bytes-in-cat-clause-unsaid c =
    let on = c.from_residual in
    handed_on on.result c.in_err-bytes-in-cat.field-0.0 _ on.ensures.1
    (λ names.
    let said = said_of c.args.name.now (codes "cat") (rows_of (found_of c.args.options.now)) c.in-cat.is names in
    absurd (c.in_err-bytes-in-cat.ensures.none.1 (word (codes "path")) refl (said.1.1.0 refl)))

pub returns-in_err-text-in-diff-clause-unsaid : goal.returns-in_err-text-in-diff-clause-unsaid
returns-in_err-text-in-diff-clause-unsaid c =
    let on = c.from_residual-in_err-text-in-diff in
    handed_on on.result c.in_err-text-in-diff.field-0.0 _ on.ensures.1
    (λ names.
    let said = said_of c.args.name.now (codes "diff") (rows_of (found_of c.args.options.now)) c.in-diff.is names in
    absurd (c.in_err-text-in-diff.ensures.none.1 (word (codes "other")) refl (said.1.1.0 refl)))
