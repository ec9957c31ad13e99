use Rattle.std.proofs.Common.{◌≡◌, ◌∙◌, codes, false, subst, sym, true}
use Rattle.std.proofs.lemmas.Result.{IfErr-weaker}
use Rattle.std.proofs.lemmas.Slice.Eq.{bytes_eq-Decides}
use Rattle.clap.specs.Words.{Text}
use Rattle.lfs_grammar.specs.Grammar.{is_change}
use Rattle.lfs_arguments.specs.Words.{is_other}
use Rattle.lfs_arguments.proofs.NameLemmas.{takes_none}
use Rattle.lfs_arguments.proofs.operations.operation_of.Goals.{then-not-is_change-via-then-not-is_change, then-not-is_change-via-else-not-is_change+then-eq}
use Rattle.lfs_arguments.proofs.operations.operation_of.Goals as goal

pub returns-then-not-is_change-clause-unsaid : goal.returns-then-not-is_change-clause-unsaid
returns-then-not-is_change-clause-unsaid c =
    elim c.then-not-is_change.branch [
      | then-not-is_change-via-then-not-is_change w ↦
          let said : c.is_change.result ≡ false = w.if-not-is_change.true in
          let none : is_change c.args.name.now ≡ false = sym c.is_change.ensures ∙ said in
          IfErr-weaker c.other_operation_of.result _ _ (λ usage_error told is names. takes_none c.args.name.now none (told is names))
          c.other_operation_of.ensures.unsaid
      | then-not-is_change-via-else-not-is_change+then-eq w ↦
          let same = (bytes_eq-Decides c.args.name.now (codes "batch")).0 (sym w.eq.ensures ∙ w.if-eq.true) in
          IfErr-weaker c.other_operation_of.result _ _ (λ usage_error told is names.
          absurd (let bad : false ≡ true = subst (λ (n : Text). is_other n ≡ true) same (told is names) in cc))
          c.other_operation_of.ensures.unsaid
    ]
