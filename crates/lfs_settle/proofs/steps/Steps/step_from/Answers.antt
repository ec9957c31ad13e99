-- A pair that isn't the same one is a step.
use Rattle.std.proofs.Common.{◌≡◌, ◌∙◌, Bool, false, None, Some, ap, sym}
use Rattle.std.specs.Prelude.{if◌then◌else◌}
use Rattle.lfs_meta.specs.Body.{Pair}
use Rattle.lfs_settle.specs.Ended.{step_to}
use Rattle.lfs_settle.specs.InStep.{in_step_with, same_blocks}
use Rattle.lfs_settle.proofs.steps.Steps.step_from.Goals as goal

other_pair : (from to named : Pair) → same_blocks from to ≡ false → to ≡ named → Some (from, to) ≡ step_to from named
other_pair from to named other is = sym (ap (λ (b : Bool). if b then None else Some (from, to)) other) ∙ ap (step_to from) is

pub returns : goal.returns
returns c =
    other_pair c.args.from c.pair-to.result (in_step_with c.args.self.now c.args.from) (sym c.same_blocks.ensures ∙ c.if-same_blocks.false)
    c.pair-to.ensures
