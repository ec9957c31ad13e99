use Rattle.std.proofs.Common.{◌∙◌, codes, inl, inr, subst, sym}
use Rattle.std.proofs.lemmas.Result.{IfErr-weaker, IfOk-weaker}
use Rattle.clap.specs.Words.{Text, found_of, rows_of}
use Rattle.clap.proofs.WalkLemmas.{first_value-rows}
use Rattle.lfs_arguments.specs.Words.{HasBlock, HasText, IsBlockUsageError}
use Rattle.lfs_arguments.specs.declared.usage_error.UsageError.{UsageError}
use Rattle.lfs_arguments.proofs.AutoLemmas.{of_its_own, of_the_image}
use Rattle.lfs_arguments.proofs.counting.other_block_of.Goals as goal

pub returns-in-Some-clause-block : goal.returns-in-Some-clause-block
returns-in-Some-clause-block c =
    let options = found_of c.args.options.now in
    let rows = rows_of options in
    let text = c.in-Some.text.now in
    let has : HasText rows (codes "from-block") text = sym (c.in-Some.ensures ∙ first_value-rows options (codes "from-block")) in
    IfOk-weaker c.block_in.result _ _ (λ size says.
    subst (λ (option : Text). HasBlock rows option c.args.stated size) (sym (of_its_own rows text has)) (text, has, says.0))
    c.block_in.ensures.block

pub returns-in-Some-clause-refused : goal.returns-in-Some-clause-refused
returns-in-Some-clause-refused c =
    let options = found_of c.args.options.now in
    let rows = rows_of options in
    let text = c.in-Some.text.now in
    let has : HasText rows (codes "from-block") text = sym (c.in-Some.ensures ∙ first_value-rows options (codes "from-block")) in
    IfErr-weaker c.block_in.result _ _ (λ usage_error why. inr (
    subst (λ (option : Text). IsBlockUsageError usage_error rows option c.args.stated) (sym (of_its_own rows text has)) (why rows has)
    )) c.block_in.ensures.refused

pub returns-in-Some-clause-unsaid : goal.returns-in-Some-clause-unsaid
returns-in-Some-clause-unsaid c =
    let options = found_of c.args.options.now in
    let rows = rows_of options in
    let has : HasText rows (codes "from-block") c.in-Some.text.now =
    sym (c.in-Some.ensures ∙ first_value-rows options (codes "from-block")) in
    IfErr-weaker c.block_in.result _ _ (λ usage_error why. λ is rule named said.
    subst (λ (m : UsageError). IsBlockUsageError m rows (codes "from-block") c.args.stated) is (why rows has)) c.block_in.ensures.refused

pub returns-in-None-clause-block : goal.returns-in-None-clause-block
returns-in-None-clause-block c =
    let options = found_of c.args.options.now in
    let rows = rows_of options in
    let none = sym (c.in-None.ensures ∙ first_value-rows options (codes "from-block")) in
    IfOk-weaker c.block_of.result _ _ (λ size says.
    subst (λ (option : Text). HasBlock rows option c.args.stated size) (sym (of_the_image rows none)) says.0)
    c.block_of.ensures.block

pub returns-in-None-clause-refused : goal.returns-in-None-clause-refused
returns-in-None-clause-refused c =
    let options = found_of c.args.options.now in
    let rows = rows_of options in
    let none = sym (c.in-None.ensures ∙ first_value-rows options (codes "from-block")) in
    IfErr-weaker c.block_of.result _ _ (λ usage_error why. elim why [
      | inl unsaid ↦ inl unsaid
      | inr no_size ↦
          inr (subst (λ (option : Text). IsBlockUsageError usage_error rows option c.args.stated) (sym (of_the_image rows none)) no_size)
    ]) c.block_of.ensures.refused
