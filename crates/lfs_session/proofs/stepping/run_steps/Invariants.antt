use Rattle.std.proofs.Common.{◌≡◌, ◌≤◌, map, length, take, vec_len, vec_capacity}
use Rattle.std.specs.Result.{result_err}
use Rattle.lfs_history.specs.Meaning.{step_of}
use Rattle.lfs_history.specs.Taking.{Run}
use Rattle.lfs_session.proofs.stepping.run_steps.Given as goal

-- the steps so far got the replies so far, and there is room for the others
abbrev pub invariant-loop-step : goal.invariant-loop-step
invariant-loop-step l = record {
  run : Run (map step_of (take l.step-index l.steps)) (map result_err l.replies.items) l.fn.session l.session;
  len : vec_len l.replies ≡ l.step-index;
  room : length l.steps ≤ vec_capacity l.replies;
}
