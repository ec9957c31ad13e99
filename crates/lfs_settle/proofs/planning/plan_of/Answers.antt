-- The plan that settles the image if it can be, and else that of its thread as it stands.
use Rattle.std.proofs.Common.{◌≡◌, ◌∙◌, Bool, List, Option, false, ap, sym, subst}
use Rattle.std.specs.Prelude.{◌&&◌, IfNone}
use Rattle.std.specs.List.{list_all}
use Rattle.std.proofs.lemmas.Bool.{and_left}
use Rattle.lfs_block.specs.Disk.{Disk}
use Rattle.lfs_meta.specs.Body.{Pair}
use Rattle.lfs_fs.specs.Gathering.{PairPart, delta_from}
use Rattle.lfs_fs.specs.Reading.{Reading}
use Rattle.lfs_lower.specs.LaterReading.{later_reading_of}
use Rattle.lfs_settle.specs.InStep.{has_thread, in_step, stepping, thread_parts}
use Rattle.lfs_settle.specs.Moved.{can_end}
use Rattle.lfs_settle.specs.Settled.{can_hold, can_settle, settled_parts}
use Rattle.lfs_settle.specs.declared.planning.Plan.{Plan}
use Rattle.lfs_settle.proofs.SettledBlocks.{lowering_plan}
use Rattle.lfs_settle.proofs.WhatIsEnded.{ends_nothing}
use Rattle.lfs_settle.proofs.planning.plan_of.Goals as goal
use Rattle.lfs_settle.proofs.planning.plan_of.Goals.{then-can_be_ended+in_ok-plan+in_default, else-can_be_ended}

pub ending_plan-requires-clause-ended : goal.ending_plan-requires-clause-ended
ending_plan-requires-clause-ended g c =
    let r : Reading = later_reading_of (g.B.Blocks.disk c.args.blocks.now) in
    let parts : List PairPart = c.in_ok-thread.thread.parts.items in
    ap (λ (b : Bool). b && can_end (delta_from parts) parts)
    (sym (c.in_ok-thread.ensures.whole ∙ ap (λ (named : List Pair). has_thread (stepping named r)) c.in_ok-pairs.ensures.steps))
    ∙ sym c.can_be_ended.ensures ∙ c.if-can_be_ended.true

pub returns : goal.returns
returns g c =
    let d : Disk = g.B.Blocks.disk c.args.blocks.now in
    let r : Reading = later_reading_of d in
    let parts : List PairPart = c.in_ok-thread.thread.parts.items in
    let ended : c.can_be_ended.result
    ≡ (has_thread (in_step r) && can_end (delta_from (thread_parts (in_step r))) (thread_parts (in_step r))) =
    c.can_be_ended.ensures
    ∙ ap (λ (b : Bool). b && can_end (delta_from parts) parts)
    (c.in_ok-thread.ensures.whole ∙ ap (λ (named : List Pair). has_thread (stepping named r)) c.in_ok-pairs.ensures.steps)
    ∙ ap (λ (ps : List PairPart). has_thread (in_step r) && can_end (delta_from ps) ps)
    (c.in_ok-thread.ensures.parts ∙ ap (λ (named : List Pair). thread_parts (stepping named r)) c.in_ok-pairs.ensures.steps) in
    let cannot : can_settle r (in_step r) ≡ false = elim c.if-can_be_ended.branch [
      | then-can_be_ended+in_ok-plan+in_default w ↦ subst (λ (o : Option Plan). IfNone o (can_settle r (in_step r) ≡ false)) w.in_default.is
          w.in_ok-plan.ensures.none
      | else-can_be_ended w ↦ and_left
          (has_thread (in_step r) && can_end (delta_from (thread_parts (in_step r))) (thread_parts (in_step r)))
          (list_all (λ p. can_hold r p) (settled_parts (thread_parts (in_step r)))) (sym ended ∙ w.if-can_be_ended.false)
    ] in
    record {
      plan = lowering_plan d c.in_ok-pairs.pairs.items c.new-changed.result.items cannot c.in_ok-pairs.ensures.pairs
          c.new-changed.ensures.items;
      ended = ends_nothing r c.nothing-ended.result cannot c.nothing-ended.ensures.moved c.nothing-ended.ensures.dropped
          c.nothing-ended.ensures.steps;
    }
