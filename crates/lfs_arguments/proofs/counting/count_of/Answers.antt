use Rattle.std.proofs.Common.{◌≡◌, ◌∙◌, Some, None, ap, codes, inl, inr, sym}
use Rattle.std.proofs.lemmas.Option.{none-some}
use Rattle.std.proofs.lemmas.Result.{IfErr-weaker}
use Rattle.clap.specs.Words.{Text, first_of, found_of, rows_of}
use Rattle.clap.proofs.WalkLemmas.{first_value-rows}
use Rattle.lfs_arguments.proofs.Handed.{ok_weaker}
use Rattle.lfs_arguments.proofs.counting.count_of.Goals as goal

pub returns-in-Some-None-clause-count : goal.returns-in-Some-None-clause-count
returns-in-Some-None-clause-count c =
    let options = found_of c.args.options.now in
    let none : None ≡ first_of (codes "size") (rows_of options) = c.in-Some-None.ensures' ∙ first_value-rows options (codes "size") in
    ok_weaker c.number.result _ _ (λ count has. inl (has, sym none)) c.number.ensures.some

pub returns-in-Some-None-clause-unsaid : goal.returns-in-Some-None-clause-unsaid
returns-in-Some-None-clause-unsaid c =
    let options = found_of c.args.options.now in
    let rows = rows_of options in
    let some : Some c.in-Some-None.field-0-0.now ≡ first_of (codes "count") rows =
    c.in-Some-None.ensures ∙ first_value-rows options (codes "count") in
    IfErr-weaker c.number.result _ _ (λ usage_error says. λ unsaid rule is number or. elim or [
      | inl said ↦ says.1 rule is number said
      | inr gone ↦ none-some c.in-Some-None.field-0-0.now (sym gone.1 ∙ ap (λ (id : Text). first_of id rows) is ∙ sym some)
    ]) c.number.ensures.none

pub returns-in-Some-Some-clause-refused : goal.returns-in-Some-Some-clause-refused
returns-in-Some-Some-clause-refused c =
    let options = found_of c.args.options.now in
    inr (
      (c.in-Some-Some.field-0-0.now, sym (c.in-Some-Some.ensures ∙ first_value-rows options (codes "count"))),
      (c.in-Some-Some.field-0-1.now, sym (c.in-Some-Some.ensures' ∙ first_value-rows options (codes "size"))),
    )

pub returns-in-Ok-clause-count : goal.returns-in-Ok-clause-count
returns-in-Ok-clause-count c =
    let options = found_of c.args.options.now in
    inr (
      sym (c.in-None-Some.ensures ∙ first_value-rows options (codes "count")),
      (c.in-None-Some.text.now, sym (c.in-None-Some.ensures' ∙ first_value-rows options (codes "size")), c.in-Ok.ensures.blocks),
    )

pub returns-in-Err-clause-refused : goal.returns-in-Err-clause-refused
returns-in-Err-clause-refused c =
    let options = found_of c.args.options.now in
    inr (
      sym (c.in-None-Some.ensures ∙ first_value-rows options (codes "count")),
      sym (c.in-None-Some.ensures' ∙ first_value-rows options (codes "size")),
      c.in-Err.ensures.refused,
    )

pub returns-in-None-None-clause-refused : goal.returns-in-None-None-clause-refused
returns-in-None-None-clause-refused c =
    let options = found_of c.args.options.now in
    inr (
      sym (c.in-None-None.ensures ∙ first_value-rows options (codes "count")),
      sym (c.in-None-None.ensures' ∙ first_value-rows options (codes "size")),
    )
