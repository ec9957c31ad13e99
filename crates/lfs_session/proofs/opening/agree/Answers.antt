-- The changes that are done go back, and the others go on from there.
use Rattle.std.proofs.Common.{drop, refl, reverse, take}
use Rattle.std.specs.Prelude.{◌↔◌, IsTrue}
use Rattle.lfs_history.specs.History.{GoesBack, GoesForward}
use Rattle.lfs_session.proofs.opening.agree.Goals as goal

pub returns-then-goes_back-clause-agrees : goal.returns-then-goes_back-clause-agrees
returns-then-goes_back-clause-agrees c =
    let d = c.args.image.now.disk in
    let made : GoesBack (reverse (take c.args.done c.args.patches.now)) d = rw (← c.split_at.ensures.front) (c.if-goes_back.ensures.agrees.0 refl) in
    let undone : IsTrue c.goes_on.result ↔ GoesForward (drop c.args.done c.args.patches.now) d =
    rw (← c.split_at.ensures.back, ← c.goes_back.ensures.disk) c.goes_on.ensures.agrees in
    (λ on. (made, undone.0 on), λ both. undone.1 both.1)
