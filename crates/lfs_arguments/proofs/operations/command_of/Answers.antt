use Rattle.std.proofs.Common.{codes, inl, inr, refl, subst, sym}
use Rattle.clap.specs.Words.{Text, found_of, rows_of}
use Rattle.lfs_grammar.specs.Grammar.{new_count, word}
use Rattle.lfs_grammar.proofs.CommandLemmas.{new_count_is, said_of, says_of}
use Rattle.lfs_arguments.specs.Words.{IsHexUsageError, IsKindUsageError}
use Rattle.std.proofs.lemmas.Result.{IfErr-weaker, IfOk-weaker}
use Rattle.lfs_arguments.proofs.Handed.{handed_on}
use Rattle.lfs_arguments.proofs.NameLemmas.{no_command}
use Rattle.lfs_arguments.proofs.operations.command_of.Goals as goal

pub returns-in_err-path-in-setattr-clause-unsaid : goal.returns-in_err-path-in-setattr-clause-unsaid
returns-in_err-path-in-setattr-clause-unsaid c =
    let on = c.from_residual in
    handed_on on.result c.in_err-path-in-setattr.field-0.0 _ on.ensures.1
    (λ is names.
    let said = said_of c.args.name.now (codes "setattr") (rows_of (found_of c.args.options.now)) c.in-setattr.is names in
    absurd (c.in_err-path-in-setattr.ensures.none.1 (word (codes "path")) refl (said.1.1.0 refl)))

pub returns-in_err-kind-in-setattr-clause-refused : goal.returns-in_err-kind-in-setattr-clause-refused
returns-in_err-kind-in-setattr-clause-refused c =
    let on = c.from_residual-in_err-kind-in-setattr in
    handed_on on.result c.in_err-kind-in-setattr.field-0.0 _ on.ensures.1
    (elim c.in_err-kind-in-setattr.ensures.refused [
      | inl unsaid ↦ inl unsaid
      | inr (inl memory) ↦ inr (inl memory)
      | inr (inr usage_error) ↦
          let named = subst (λ (name : Text). IsHexUsageError c.in_err-kind-in-setattr.field-0.0 name (rows_of (found_of c.args.options.now)))
          (sym c.in-setattr.is) usage_error in
          inr (inr (inr (inl (c.in-setattr.is, named))))
    ])

pub returns-in_err-kind-in-setattr-clause-unsaid : goal.returns-in_err-kind-in-setattr-clause-unsaid
returns-in_err-kind-in-setattr-clause-unsaid c =
    let on = c.from_residual-in_err-kind-in-setattr in
    handed_on on.result c.in_err-kind-in-setattr.field-0.0 _ on.ensures.1
    (λ is names.
    let said = said_of c.args.name.now (codes "setattr") (rows_of (found_of c.args.options.now)) c.in-setattr.is names in
    elim (c.in_err-kind-in-setattr.ensures.unsaid is) [
      | inl no_value ↦ absurd (no_value (word (codes "hex")) refl (said.1.1.1.1.0 refl))
      | inr no_kind ↦ absurd (no_kind (word (codes "kind")) refl (said.1.1.1.0 refl))
    ])

pub returns-in_err-bytes-in-rmattr-clause-unsaid : goal.returns-in_err-bytes-in-rmattr-clause-unsaid
returns-in_err-bytes-in-rmattr-clause-unsaid c =
    let on = c.from_residual-in_err-bytes-in-rmattr in
    handed_on on.result c.in_err-bytes-in-rmattr.field-0.0 _ on.ensures.1
    (λ is names.
    let said = said_of c.args.name.now (codes "rmattr") (rows_of (found_of c.args.options.now)) c.in-rmattr.is names in
    absurd (c.in_err-bytes-in-rmattr.ensures.none.1 (word (codes "path")) refl (said.1.1.0 refl)))

pub returns-in_err-kind_of-in-rmattr-clause-refused : goal.returns-in_err-kind_of-in-rmattr-clause-refused
returns-in_err-kind_of-in-rmattr-clause-refused c =
    let on = c.from_residual-in_err-kind_of-in-rmattr in
    handed_on on.result c.in_err-kind_of-in-rmattr.field-0.0 _ on.ensures.1
    (elim c.in_err-kind_of-in-rmattr.ensures.refused [
      | inl unsaid ↦ inl unsaid
      | inr usage_error ↦
          let named = subst (λ (name : Text). IsKindUsageError c.in_err-kind_of-in-rmattr.field-0.0 name (rows_of (found_of c.args.options.now)))
          (sym c.in-rmattr.is) usage_error in
          inr (inr (inr (inr (inl (c.in-rmattr.is, named)))))
    ])

pub returns-in_err-kind_of-in-rmattr-clause-unsaid : goal.returns-in_err-kind_of-in-rmattr-clause-unsaid
returns-in_err-kind_of-in-rmattr-clause-unsaid c =
    let on = c.from_residual-in_err-kind_of-in-rmattr in
    handed_on on.result c.in_err-kind_of-in-rmattr.field-0.0 _ on.ensures.1
    (λ is names.
    let said = said_of c.args.name.now (codes "rmattr") (rows_of (found_of c.args.options.now)) c.in-rmattr.is names in
    absurd (c.in_err-kind_of-in-rmattr.ensures.unsaid is (word (codes "kind")) refl (said.1.1.1.0 refl)))

pub returns-in_err-count_of-in-grow-clause-refused : goal.returns-in_err-count_of-in-grow-clause-refused
returns-in_err-count_of-in-grow-clause-refused c =
    let on = c.from_residual-in_err-count_of-in-grow in
    handed_on on.result c.in_err-count_of-in-grow.field-0.0 _ on.ensures.1
    (elim c.in_err-count_of-in-grow.ensures.refused [
      | inl unsaid ↦ inl unsaid
      | inr usage_error ↦ inr (inr (inl (inl (inr c.in-grow.is, usage_error))))
    ])

pub returns-in_err-count_of-in-grow-clause-unsaid : goal.returns-in_err-count_of-in-grow-clause-unsaid
returns-in_err-count_of-in-grow-clause-unsaid c =
    let on = c.from_residual-in_err-count_of-in-grow in
    handed_on on.result c.in_err-count_of-in-grow.field-0.0 _ on.ensures.1
    (λ is names.
    let says = says_of c.args.name.now (codes "grow") (rows_of (found_of c.args.options.now)) c.in-grow.is names in
    absurd (c.in_err-count_of-in-grow.ensures.unsaid is new_count refl new_count_is says.1.1.0))

pub returns-in_default-clause-some : goal.returns-in_default-clause-some
returns-in_default-clause-some c = IfOk-weaker c.tree_command_of.result _ _ (λ command is. is c.args.block) c.tree_command_of.ensures.some

pub returns-in_default-clause-refused : goal.returns-in_default-clause-refused
returns-in_default-clause-refused c = IfErr-weaker c.tree_command_of.result _ _ (λ usage_error is. inl is) c.tree_command_of.ensures.refused

pub returns-in_default-clause-unsaid : goal.returns-in_default-clause-unsaid
returns-in_default-clause-unsaid c =
    let h = c.in_default in
    IfErr-weaker c.tree_command_of.result _ _ (λ usage_error other is names. no_command c.args.name.now (other names) h.not-setattr h.not-rmattr h.not-grow)
    c.tree_command_of.ensures.unsaid
