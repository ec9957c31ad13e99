use Rattle.std.proofs.Common.{codes, inl, inr, refl}
use Rattle.clap.specs.Words.{found_of, rows_of}
use Rattle.lfs_grammar.specs.Grammar.{count, word}
use Rattle.lfs_grammar.proofs.CommandLemmas.{count_is, said_of, says_of}
use Rattle.lfs_arguments.proofs.Handed.{handed_on}
use Rattle.lfs_arguments.proofs.operations.repack_of.Goals as goal

pub returns-in_err-text-clause-unsaid : goal.returns-in_err-text-clause-unsaid
returns-in_err-text-clause-unsaid c =
    let on = c.from_residual in
    handed_on on.result c.in_err-text.field-0.0 _ on.ensures.1
    (λ is names.
    let said = said_of (codes "repack") (codes "repack") (rows_of (found_of c.args.options.now)) refl names in
    c.in_err-text.ensures.none.1 (word (codes "source")) refl (said.1.1.0 refl))

pub returns-in_err-extent_if_said-clause-refused : goal.returns-in_err-extent_if_said-clause-refused
returns-in_err-extent_if_said-clause-refused c =
    let on = c.from_residual-in_err-extent_if_said in
    handed_on on.result c.in_err-extent_if_said.field-0.0 _ on.ensures.1
    (elim c.in_err-extent_if_said.ensures.refused [
      | inl unsaid ↦ inl unsaid
      | inr usage_error ↦ inr (inl (inr (inr (refl, usage_error.0, usage_error.1))))
    ])

pub returns-in_err-extent_if_said-clause-unsaid : goal.returns-in_err-extent_if_said-clause-unsaid
returns-in_err-extent_if_said-clause-unsaid c =
    let on = c.from_residual-in_err-extent_if_said in
    handed_on on.result c.in_err-extent_if_said.field-0.0 _ on.ensures.1
    (λ is names.
    let says = says_of (codes "repack") (codes "repack") (rows_of (found_of c.args.options.now)) refl names in
    c.in_err-extent_if_said.ensures.unsaid is count refl count_is says.1.1.1.1.0)

pub returns-clause-within : goal.returns-clause-within
returns-clause-within c = λ names.
    let says = says_of (codes "repack") (codes "repack") (rows_of (found_of c.args.options.now)) refl names in
    let limits = says.1.1.1.1.1.1.1.1 in
    c.limits_if_said.ensures.within limits.0 limits.1.0 limits.1.1.0
