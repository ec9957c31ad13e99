-- One step more goes on with the run; what it keeps may be kept.
use Rattle.std.proofs.Common.{arith, rules}
use Rattle.std.proofs.lemmas.List.Elements.{All-from_recursion}
use Rattle.lfs_history.specs.Meaning.{OnBytes, step_of}
use Rattle.lfs_history.specs.Taking.{KeepsInRange}
use Rattle.lfs_session.proofs.StepLemmas.{run_more}
use Rattle.lfs_session.proofs.stepping.run_steps.Goals as goal

pub step-requires : goal.step-requires
step-requires c =
    All-from_recursion (λ (step : OnBytes). KeepsInRange (step_of step)) c.args.steps.now c.requires c.loop-step.step-index _ (omega arith)

pub loop-step-preserved : goal.loop-step-preserved
loop-step-preserved c = record {
  run = run_more c.args.steps.now c.loop-step.step-index _ c.loop-step.replies.items c.push.new.self.items c.step.result c.args.session.now
      c.loop-step.session c.step.new.self
      c.loop-step-test.true c.in_ok-push.ensures.items c.loop-step.invariant.run c.step.ensures;
  len = search rules;
  room = omega arith;
}
