use Rattle.std.proofs.Common.{rules, ◌≡◌, ◌∙◌, ap, codes, refl, true}
use Rattle.std.proofs.lemmas.Result.{IfErr-weaker, IfOk-weaker}
use Rattle.clap.specs.Words.{found_of, rows_of}
use Rattle.clap.proofs.WalkLemmas.{first_value-rows}
use Rattle.lfs_grammar.specs.Grammar.{is_change, steps}
use Rattle.lfs_grammar.proofs.CommandLemmas.{said_of, steps_is}
use Rattle.lfs_arguments.proofs.Handed.{handed_on}
use Rattle.lfs_arguments.proofs.operations.past_operation_of.Goals as goal

pub returns-in_err-number-in-undo-clause-unsaid : goal.returns-in_err-number-in-undo-clause-unsaid
returns-in_err-number-in-undo-clause-unsaid c =
    let on = c.from_residual in
    handed_on on.result c.in_err-number-in-undo.field-0.0 _ on.ensures.1
    (λ names.
    let said = said_of c.args.name.now (codes "undo") (rows_of (found_of c.args.options.now)) c.in-undo.is names in
    absurd (c.in_err-number-in-undo.ensures.none.1 steps refl steps_is (said.1.1.0 refl)))

pub returns-in_err-number-in-redo-clause-unsaid : goal.returns-in_err-number-in-redo-clause-unsaid
returns-in_err-number-in-redo-clause-unsaid c =
    let on = c.from_residual-in_err-number-in-redo in
    handed_on on.result c.in_err-number-in-redo.field-0.0 _ on.ensures.1
    (λ names.
    let said = said_of c.args.name.now (codes "redo") (rows_of (found_of c.args.options.now)) c.in-redo.is names in
    absurd (c.in_err-number-in-redo.ensures.none.1 steps refl steps_is (said.1.1.0 refl)))

pub returns-in-batch-clause-some : goal.returns-in-batch-clause-some
returns-in-batch-clause-some c = λ block. (
  c.in-batch.is,
  c.get_str.ensures ∙ first_value-rows (found_of c.args.options.now) (codes "script"),
  c.keep_of.ensures.kept,
  c.most_of.ensures,
  search rules,
)

pub returns-in-batch-clause-within : goal.returns-in-batch-clause-within
returns-in-batch-clause-within c = λ names.
    let changes : is_change c.args.name.now ≡ true = ap is_change c.in-batch.is in
    c.keep_of.ensures.within c.args.name.now changes names

pub returns-in_default-clause-some : goal.returns-in_default-clause-some
returns-in_default-clause-some c = c.viewing_operation_of.ensures.some

pub returns-in_default-clause-within : goal.returns-in_default-clause-within
returns-in_default-clause-within c = IfOk-weaker c.viewing_operation_of.result _ _ (λ operation within names. within) c.viewing_operation_of.ensures.within

pub returns-in_default-clause-refused : goal.returns-in_default-clause-refused
returns-in_default-clause-refused c = c.viewing_operation_of.ensures.refused

pub returns-in_default-clause-unsaid : goal.returns-in_default-clause-unsaid
returns-in_default-clause-unsaid c =
    let h = c.in_default in
    IfErr-weaker c.viewing_operation_of.result _ _ (λ usage_error other names. (h.not-undo, h.not-redo, h.not-forget, h.not-adopt, h.not-batch, other names))
    c.viewing_operation_of.ensures.unsaid
