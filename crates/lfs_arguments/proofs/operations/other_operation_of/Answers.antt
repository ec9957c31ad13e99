use Rattle.std.proofs.Common.{Some, codes, inl, inr, refl, subst, sym}
use Rattle.std.specs.Prelude.{IfOk}
use Rattle.std.proofs.lemmas.Result.{IfErr-weaker, IfOk-weaker}
use Rattle.clap.specs.Words.{Text, found_of, rows_of}
use Rattle.lfs_grammar.specs.Grammar.{NamesCommand, count, word}
use Rattle.lfs_grammar.proofs.CommandLemmas.{count_is, said_of, says_of}
use Rattle.lfs_arguments.specs.Words.{IsSizeUsageError, IsOperation}
use Rattle.lfs_arguments.proofs.Handed.{handed_on}
use Rattle.lfs_arguments.proofs.NameLemmas.{other_named}
use Rattle.lfs_arguments.proofs.operations.other_operation_of.Goals as goal

pub returns-in_err-count_of-in-format-clause-refused : goal.returns-in_err-count_of-in-format-clause-refused
returns-in_err-count_of-in-format-clause-refused c =
    let on = c.from_residual-in_err-count_of-in-format in
    handed_on on.result c.in_err-count_of-in-format.field-0.0 _ on.ensures.1
    (elim c.in_err-count_of-in-format.ensures.refused [
      | inl unsaid ↦ inl unsaid
      | inr usage_error ↦ inr (inl (inl (inl c.in-format.is, usage_error)))
    ])

pub returns-in_err-count_of-in-format-clause-unsaid : goal.returns-in_err-count_of-in-format-clause-unsaid
returns-in_err-count_of-in-format-clause-unsaid c =
    let on = c.from_residual-in_err-count_of-in-format in
    handed_on on.result c.in_err-count_of-in-format.field-0.0 _ on.ensures.1
    (λ is names.
    let says = says_of c.args.name.now (codes "format") (rows_of (found_of c.args.options.now)) c.in-format.is names in
    absurd (c.in_err-count_of-in-format.ensures.unsaid is count refl count_is says.1.1.0))

pub returns-in_err-limits_of-in-format-clause-unsaid : goal.returns-in_err-limits_of-in-format-clause-unsaid
returns-in_err-limits_of-in-format-clause-unsaid c =
    let on = c.from_residual-in_err-limits_of-in-format in
    handed_on on.result c.in_err-limits_of-in-format.field-0.0 _ on.ensures.1
    (λ is names.
    let said = said_of c.args.name.now (codes "format") (rows_of (found_of c.args.options.now)) c.in-format.is names in
    let limits = said.1.1.1.1 in
    absurd (c.in_err-limits_of-in-format.ensures.unsaid.1 (limits.0 refl) (limits.1.0 refl) (limits.1.1.0 refl)))

pub returns-in_ok-limits_of-in-format-clause-within : goal.returns-in_ok-limits_of-in-format-clause-within
returns-in_ok-limits_of-in-format-clause-within c = λ names.
    let said = said_of c.args.name.now (codes "format") (rows_of (found_of c.args.options.now)) c.in-format.is names in
    let limits = said.1.1.1.1 in
    c.in_ok-limits_of-in-format.ensures.within (limits.0 refl) (limits.1.0 refl) (limits.1.1.0 refl)

pub returns-in_err-extent_of-in-pack-clause-refused : goal.returns-in_err-extent_of-in-pack-clause-refused
returns-in_err-extent_of-in-pack-clause-refused c =
    let on = c.from_residual-in_err-extent_of-in-pack in
    handed_on on.result c.in_err-extent_of-in-pack.field-0.0 _ on.ensures.1
    (elim c.in_err-extent_of-in-pack.ensures.refused [
      | inl unsaid ↦ inl unsaid
      | inr usage_error ↦ inr (inl (inr (inl (c.in-pack.is, usage_error))))
    ])

pub returns-in_err-extent_of-in-pack-clause-unsaid : goal.returns-in_err-extent_of-in-pack-clause-unsaid
returns-in_err-extent_of-in-pack-clause-unsaid c =
    let on = c.from_residual-in_err-extent_of-in-pack in
    handed_on on.result c.in_err-extent_of-in-pack.field-0.0 _ on.ensures.1
    (λ is names.
    let says = says_of c.args.name.now (codes "pack") (rows_of (found_of c.args.options.now)) c.in-pack.is names in
    absurd (c.in_err-extent_of-in-pack.ensures.unsaid is count refl count_is says.1.1.1.0))

pub returns-in_err-limits_of-in-pack-clause-unsaid : goal.returns-in_err-limits_of-in-pack-clause-unsaid
returns-in_err-limits_of-in-pack-clause-unsaid c =
    let on = c.from_residual-in_err-limits_of-in-pack in
    handed_on on.result c.in_err-limits_of-in-pack.field-0.0 _ on.ensures.1
    (λ is names.
    let said = said_of c.args.name.now (codes "pack") (rows_of (found_of c.args.options.now)) c.in-pack.is names in
    let limits = said.1.1.1.1.1.1.1 in
    absurd (c.in_err-limits_of-in-pack.ensures.unsaid.1 (limits.0 refl) (limits.1.0 refl) (limits.1.1.0 refl)))

pub returns-in_err-text-in-pack-clause-unsaid : goal.returns-in_err-text-in-pack-clause-unsaid
returns-in_err-text-in-pack-clause-unsaid c =
    let on = c.from_residual-in_err-text-in-pack in
    handed_on on.result c.in_err-text-in-pack.field-0.0 _ on.ensures.1
    (λ is names.
    let said = said_of c.args.name.now (codes "pack") (rows_of (found_of c.args.options.now)) c.in-pack.is names in
    absurd (c.in_err-text-in-pack.ensures.none.1 (word (codes "dir")) refl (said.1.1.0 refl)))

pub returns-in_ok-text-in-pack-clause-within : goal.returns-in_ok-text-in-pack-clause-within
returns-in_ok-text-in-pack-clause-within c = λ names.
    let said = said_of c.args.name.now (codes "pack") (rows_of (found_of c.args.options.now)) c.in-pack.is names in
    let limits = said.1.1.1.1.1.1.1 in
    c.in_ok-limits_of-in-pack.ensures.within (limits.0 refl) (limits.1.0 refl) (limits.1.1.0 refl)

pub returns-in-repack-clause-some : goal.returns-in-repack-clause-some
returns-in-repack-clause-some c =
    let rows = rows_of (found_of c.args.options.now) in
    subst (λ (name : Text). IfOk c.repack_of.result (λ operation. IsOperation operation name rows c.args.block c.args.other)) (sym c.in-repack.is)
    c.repack_of.ensures.some

pub returns-in-repack-clause-within : goal.returns-in-repack-clause-within
returns-in-repack-clause-within c =
    let rows = rows_of (found_of c.args.options.now) in
    IfOk-weaker c.repack_of.result _ _ (λ operation within names.
    within (subst (λ (name : Text). NamesCommand (Some (name, rows))) c.in-repack.is names)) c.repack_of.ensures.within

pub returns-in-repack-clause-refused : goal.returns-in-repack-clause-refused
returns-in-repack-clause-refused c =
    let rows = rows_of (found_of c.args.options.now) in
    IfErr-weaker c.repack_of.result _ _ (λ usage_error why. elim why [
      | inl unsaid ↦ inl unsaid
      | inr (inl size) ↦ inr (inl (subst (λ (name : Text). IsSizeUsageError usage_error name rows c.args.block) (sym c.in-repack.is) size))
      | inr (inr offset) ↦ inr (inr offset)
    ]) c.repack_of.ensures.refused

pub returns-in-repack-clause-unsaid : goal.returns-in-repack-clause-unsaid
returns-in-repack-clause-unsaid c =
    let rows = rows_of (found_of c.args.options.now) in
    IfErr-weaker c.repack_of.result _ _ (λ usage_error never is names.
    absurd (never is (subst (λ (name : Text). NamesCommand (Some (name, rows))) c.in-repack.is names))) c.repack_of.ensures.unsaid

pub returns-in_default-clause-some : goal.returns-in_default-clause-some
returns-in_default-clause-some c = IfOk-weaker c.past_operation_of.result _ _ (λ operation is. is c.args.block) c.past_operation_of.ensures.some

pub returns-in_default-clause-within : goal.returns-in_default-clause-within
returns-in_default-clause-within c = c.past_operation_of.ensures.within

pub returns-in_default-clause-refused : goal.returns-in_default-clause-refused
returns-in_default-clause-refused c = IfErr-weaker c.past_operation_of.result _ _ (λ usage_error is. inl is) c.past_operation_of.ensures.refused

pub returns-in_default-clause-unsaid : goal.returns-in_default-clause-unsaid
returns-in_default-clause-unsaid c =
    let h = c.in_default in
    IfErr-weaker c.past_operation_of.result _ _ (λ usage_error other is names.
    other_named c.args.name.now (rows_of (found_of c.args.options.now)) names (other names) h.not-format h.not-pack h.not-repack)
    c.past_operation_of.ensures.unsaid
