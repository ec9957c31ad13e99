use Rattle.std.proofs.Common.{codes, inl, inr, refl}
use Rattle.clap.specs.Words.{found_of, rows_of}
use Rattle.lfs_grammar.specs.Grammar.{word}
use Rattle.lfs_grammar.proofs.CommandLemmas.{image_said}
use Rattle.lfs_arguments.proofs.Handed.{handed_on}
use Rattle.lfs_arguments.proofs.matching.request_of.Goals as goal

pub returns-in_err-size-clause-refused : goal.returns-in_err-size-clause-refused
returns-in_err-size-clause-refused c =
    let on = c.from_residual in
    handed_on on.result c.in_err-size.field-0.0 _ on.ensures.1
    (elim c.in_err-size.ensures.refused [
      | inl unsaid ↦ inl unsaid
      | inr usage_error ↦ inr (inr (inl usage_error))
    ])

pub returns-in_err-size-clause-unsaid : goal.returns-in_err-size-clause-unsaid
returns-in_err-size-clause-unsaid c =
    let on = c.from_residual in
    handed_on on.result c.in_err-size.field-0.0 _ on.ensures.1
    (λ is names.
    elim (image_said c.args.name.now (rows_of (found_of c.args.options.now)) names) [
      | inl none ↦ none
      | inr says ↦ absurd (c.in_err-size.ensures.unsaid is says.0.0 says.0.1 says.0.2)
    ])

pub returns-in_err-other-clause-refused : goal.returns-in_err-other-clause-refused
returns-in_err-other-clause-refused c =
    let on = c.from_residual-in_err-other in
    handed_on on.result c.in_err-other.field-0.0 _ on.ensures.1
    (elim c.in_err-other.ensures.refused [
      | inl unsaid ↦ inl unsaid
      | inr usage_error ↦ inr (inr (inr (inl usage_error)))
    ])

pub returns-in_err-other-clause-unsaid : goal.returns-in_err-other-clause-unsaid
returns-in_err-other-clause-unsaid c =
    let on = c.from_residual-in_err-other in
    handed_on on.result c.in_err-other.field-0.0 _ on.ensures.1
    (λ is names.
    elim (image_said c.args.name.now (rows_of (found_of c.args.options.now)) names) [
      | inl none ↦ none
      | inr says ↦ absurd (c.in_err-other.ensures.unsaid is says.0.0 says.0.1 says.0.2)
    ])

pub returns-in_err-text-clause-unsaid : goal.returns-in_err-text-clause-unsaid
returns-in_err-text-clause-unsaid c =
    let on = c.from_residual-in_err-text in
    handed_on on.result c.in_err-text.field-0.0 _ on.ensures.1
    (λ is names.
    elim (image_said c.args.name.now (rows_of (found_of c.args.options.now)) names) [
      | inl none ↦ none
      | inr says ↦ absurd (c.in_err-text.ensures.none.1 (word (codes "image")) refl says.1)
    ])

pub returns-in_err-operation_of-clause-refused : goal.returns-in_err-operation_of-clause-refused
returns-in_err-operation_of-clause-refused c =
    let on = c.from_residual-in_err-operation_of in
    handed_on on.result c.in_err-operation_of.field-0.0 _ on.ensures.1
    (elim c.in_err-operation_of.ensures.refused [
      | inl unsaid ↦ inl unsaid
      | inr (inl memory) ↦ inr (inl memory)
      | inr (inr usage_error) ↦ inr (inr (inr (inr (c.in_ok-size.size, c.in_ok-size.ensures.block.0, usage_error))))
    ])
