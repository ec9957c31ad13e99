use Rattle.std.proofs.Common.{rules, ◌≡◌, List, ℕ, inr, refl, subst}
use Rattle.lfs_texts.specs.Digits.{SpellsByte, SpellsNoByte}
use Rattle.lfs_arguments.proofs.Handed.{handed_on}
use Rattle.lfs_arguments.proofs.spelling.kind_of.Goals as goal

pub returns-in_err-digits-clause-unsaid : goal.returns-in_err-digits-clause-unsaid
returns-in_err-digits-clause-unsaid c =
    let on = c.from_residual in
    handed_on on.result c.in_err-digits.field-0.0 _ on.ensures.1
    (λ is rule named said. c.in_err-digits.ensures.none.1 rule named said)

pub returns-in-Some-clause-kind : goal.returns-in-Some-clause-kind
returns-in-Some-clause-kind c =
    let same : c.as_bytes.result.now ≡ c.in_ok-digits.digits.now = search rules in
    let spells = subst (λ (text : List ℕ). SpellsByte text c.in-Some.kind) same c.in-Some.ensures.byte in
    (c.in_ok-digits.digits.now, c.in_ok-digits.ensures.some, spells)

pub returns-in-None-clause-refused : goal.returns-in-None-clause-refused
returns-in-None-clause-refused c =
    let same : c.as_bytes.result.now ≡ c.in_ok-digits.digits.now = search rules in
    let none = subst SpellsNoByte same c.in-None.ensures.none in
    inr (refl, c.in_ok-digits.ensures.some, none)
