use Rattle.std.proofs.Common.{◌≡◌, ◌∙◌, Some, ap, codes, subst, sym}
use Rattle.std.specs.Prelude.{Option, unwrap_or}
use Rattle.std.proofs.lemmas.Option.{none-some}
use Rattle.clap.specs.Words.{Text, found_of}
use Rattle.clap.proofs.WalkLemmas.{first_value-rows}
use Rattle.lfs_texts.specs.Sizes.{SaysBytes}
use Rattle.lfs_arguments.proofs.Handed.{some_weaker}
use Rattle.lfs_arguments.proofs.viewing.place_said.Goals as goal

pub returns-in-Some-clause-some : goal.returns-in-Some-clause-some
returns-in-Some-clause-some c =
    let has = sym (c.in-Some.ensures ∙ first_value-rows (found_of c.args.options.now) (codes "offset")) in
    some_weaker c.bytes_said.result _ _ (λ place says. (c.in-Some.text.now, has, says)) c.bytes_said.ensures.bytes

pub returns-in-Some-clause-none : goal.returns-in-Some-clause-none
returns-in-Some-clause-none c = λ none place (text, is, says) within.
    let has : Some c.in-Some.text.now ≡ Some text = c.in-Some.ensures ∙ first_value-rows (found_of c.args.options.now) (codes "offset") ∙ is in
    let same : c.in-Some.text.now ≡ text = ap (λ (o : Option Text). unwrap_or o text) has in
    c.bytes_said.ensures.none none place (subst (λ (t : Text). SaysBytes t place) (sym same) says) within

pub returns-in-None-clause-none : goal.returns-in-None-clause-none
returns-in-None-clause-none c = λ none place (text, is, says) within.
    none-some text (c.in-None.ensures ∙ first_value-rows (found_of c.args.options.now) (codes "offset") ∙ is)
