-- One change more is made again, and none is wanting.
use Rattle.std.proofs.Common.{◌≡◌, ℕ, ◌<◌, ◌≤◌, length, subst, arith}
use Rattle.lfs_history.specs.Moves.{Redoes, Repeats}
use Rattle.lfs_history.proofs.RepeatLemmas.{one_more}
use Rattle.lfs_session.proofs.CountLemmas.{future_left}
use Rattle.lfs_session.proofs.session.Session.redo_steps.Goals as goal

pub returns-in_err-redo-clause-refused : goal.returns-in_err-redo-clause-refused
returns-in_err-redo-clause-refused c =
    let many : c.args.steps ≤ length c.args.self.now.future = omega arith in
    let more : c.loop.counter < c.args.steps = omega arith in
    absurd (future_left c.args.steps c.loop.counter c.args.self.now c.loop.self c.loop.invariant more many
    c.in_err-redo.ensures.refused.1)

pub loop-preserved : goal.loop-preserved
loop-preserved c =
    one_more Redoes c.loop.counter c.args.self.now c.loop.self c.redo.new.self c.loop.invariant c.in_ok-redo.ensures.done

pub returns-clause-done : goal.returns-clause-done
returns-clause-done c =
    let all : c.loop.counter ≡ c.args.steps = omega arith in
    subst (λ (n : ℕ). Repeats Redoes n c.args.self.now c.loop.self) all c.loop.invariant
