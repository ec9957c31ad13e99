-- One attribute more, and all.
use Rattle.std.proofs.Common.{ℕ, ◌≤◌, List, arith, length, subst}
use Rattle.std.specs.List.{All}
use Rattle.std.proofs.lemmas.List.{take_all}
use Rattle.std.proofs.lemmas.List.Elements.{All-more}
use Rattle.lfs_survey.proofs.entry_faults.some_is_over.Goals as goal

pub each-preserved : goal.each-preserved
each-preserved c =
    let fits = subst (λ (a : ℕ × List ℕ). length a.1 ≤ c.args.limit) c.attribute.view_is
    (omega (arith, c.len.ensures, c.if-len-limit.false)) in
    All-more (λ (a : ℕ × List ℕ). length a.1 ≤ c.args.limit) c.args.attributes.now c.each.attribute-index c.attribute-item.result
    c.each-test.true c.each.invariant
    (subst (λ (a : ℕ × List ℕ). length a.1 ≤ c.args.limit) c.attribute-item.is fits)

pub returns : goal.returns
returns c = subst (λ (as' : List (ℕ × List ℕ)). All (λ (a : ℕ × List ℕ). length a.1 ≤ c.args.limit) as')
    (take_all c.each.attribute-index c.args.attributes.now c.each-test.false) c.each.invariant
