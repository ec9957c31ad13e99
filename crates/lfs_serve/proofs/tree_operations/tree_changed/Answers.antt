-- Each change of a tree ends as its own function says.
use Rattle.std.proofs.Common.{refl, inl, inr}
use Rattle.lfs_exchange.specs.declared.step_kind.StepKind.TheVariants.{Changes}
use Rattle.lfs_step.specs.declared.step.Step.TheVariants as step
use Rattle.lfs_serve.proofs.tree_operations.tree_changed.Goals as goal

pub change_taken-requires-clause-keep : goal.change_taken-requires-clause-keep
change_taken-requires-clause-keep g c = c.requires

pub change_taken-requires-in-Make-clause-keep : goal.change_taken-requires-in-Make-clause-keep
change_taken-requires-in-Make-clause-keep g c = c.requires

pub returns-in-Remove-clause-ended : goal.returns-in-Remove-clause-ended
returns-in-Remove-clause-ended g c = rw c.in-Remove.is (elim c.change_taken.ensures.ended [
  | inl ends ↦ inl (step.Tree _ c.args.keep, (refl, refl), ends)
  | inr not ↦ inr (not.0, (not.1.0, not.1.1, inr (Changes, (refl, tt), not.1.2)))
])

pub returns-in-Make-clause-ended : goal.returns-in-Make-clause-ended
returns-in-Make-clause-ended g c = rw c.in-Make.is (elim c.change_taken-in-Make.ensures.ended [
  | inl ends ↦ inl (step.Tree _ c.args.keep, (refl, refl), ends)
  | inr not ↦ inr (not.0, (not.1.0, not.1.1, inr (Changes, (refl, tt), not.1.2)))
])

pub returns-in-Put : goal.returns-in-Put
returns-in-Put g c = rw c.in-Put.is c.put_with_parents.ensures

pub returns-in-Sync : goal.returns-in-Sync
returns-in-Sync g c = rw c.in-Sync.is c.synced.ensures
