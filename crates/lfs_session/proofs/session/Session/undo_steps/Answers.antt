-- One change more is taken back, and none is wanting.
use Rattle.std.proofs.Common.{◌≡◌, ℕ, ◌<◌, ◌≤◌, length, subst, arith}
use Rattle.lfs_history.specs.Moves.{Undoes, Repeats}
use Rattle.lfs_history.proofs.RepeatLemmas.{one_more}
use Rattle.lfs_session.proofs.CountLemmas.{past_left}
use Rattle.lfs_session.proofs.session.Session.undo_steps.Goals as goal

pub returns-in_err-undo-clause-refused : goal.returns-in_err-undo-clause-refused
returns-in_err-undo-clause-refused c =
    let many : c.args.steps ≤ length c.args.self.now.past = omega arith in
    let more : c.loop.counter < c.args.steps = omega arith in
    absurd (past_left c.args.steps c.loop.counter c.args.self.now c.loop.self c.loop.invariant more many
    c.in_err-undo.ensures.refused.1)

pub loop-preserved : goal.loop-preserved
loop-preserved c =
    one_more Undoes c.loop.counter c.args.self.now c.loop.self c.undo.new.self c.loop.invariant c.in_ok-undo.ensures.done

pub returns-clause-done : goal.returns-clause-done
returns-clause-done c =
    let all : c.loop.counter ≡ c.args.steps = omega arith in
    subst (λ (n : ℕ). Repeats Undoes n c.args.self.now c.loop.self) all c.loop.invariant
