-- A fault that is said is one of the list; in the end no fault of the list is.
use Rattle.std.proofs.Common.{map, arith}
use Rattle.std.proofs.lemmas.Bool.{false≢true}
use Rattle.std.proofs.Common.{sym, ◌∙◌}
use Rattle.lfs_texts.specs.Explanations.{fault_of, faults}
use Rattle.lfs_texts.proofs.FaultLemmas.{is_fault, none_said, none_unsaid, one_more}
use Rattle.lfs_texts.proofs.explanation.explained.Goals as goal

pub each-init : goal.each-init
each-init c = none_unsaid c.args.text.now (map fault_of c.explanations-known-items.result.now)

pub returns-then-is_said-clause-said : goal.returns-then-is_said-clause-said
returns-then-is_said-clause-said c = (
  is_fault c.explanations-known-items.result.now faults c.each.known-index _ c.explanations-known-items.ensures c.each-test.true,
  c.is_said.ensures.0 c.if-is_said.true,
)

pub each-preserved : goal.each-preserved
each-preserved c =
    one_more c.args.text.now c.explanations-known-items.result.now c.each.known-index _ c.each-test.true c.each.invariant
    (λ says. false≢true (sym c.if-is_said.false ∙ c.is_said.ensures.1 says))

pub returns-clause-none : goal.returns-clause-none
returns-clause-none c =
    λ _. none_said c.args.text.now c.explanations-known-items.result.now faults c.each.known-index c.explanations-known-items.ensures (omega arith)
    c.each.invariant
