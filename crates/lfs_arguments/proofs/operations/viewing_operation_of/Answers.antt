use Rattle.std.proofs.Common.{codes, refl}
use Rattle.clap.specs.Words.{found_of, rows_of}
use Rattle.lfs_grammar.specs.Grammar.{word}
use Rattle.lfs_grammar.proofs.CommandLemmas.{said_of}
use Rattle.lfs_arguments.proofs.Handed.{handed_on}
use Rattle.lfs_arguments.proofs.operations.viewing_operation_of.Goals as goal

pub returns-in_err-text-in-extract-clause-unsaid : goal.returns-in_err-text-in-extract-clause-unsaid
returns-in_err-text-in-extract-clause-unsaid c =
    let on = c.from_residual in
    handed_on on.result c.in_err-text-in-extract.field-0.0 _ on.ensures.1
    (λ names.
    let said = said_of c.args.name.now (codes "extract") (rows_of (found_of c.args.options.now)) c.in-extract.is names in
    absurd (c.in_err-text-in-extract.ensures.none.1 (word (codes "dir")) refl (said.1.1.0 refl)))

pub returns-in_err-text-in-salvage-clause-unsaid : goal.returns-in_err-text-in-salvage-clause-unsaid
returns-in_err-text-in-salvage-clause-unsaid c =
    let on = c.from_residual-in_err-text-in-salvage in
    handed_on on.result c.in_err-text-in-salvage.field-0.0 _ on.ensures.1
    (λ names.
    let said = said_of c.args.name.now (codes "salvage") (rows_of (found_of c.args.options.now)) c.in-salvage.is names in
    absurd (c.in_err-text-in-salvage.ensures.none.1 (word (codes "dir")) refl (said.1.1.0 refl)))

pub returns-in_err-question_of-in_default-clause-unsaid : goal.returns-in_err-question_of-in_default-clause-unsaid
returns-in_err-question_of-in_default-clause-unsaid c =
    let on = c.from_residual-in_err-question_of-in_default in
    let h = c.in_default in
    handed_on on.result c.in_err-question_of-in_default.field-0.0 _ on.ensures.1
    (λ names. (h.not-extract, h.not-salvage, c.in_err-question_of-in_default.ensures.unsaid names))
