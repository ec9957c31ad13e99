-- One image of the future for each change that isn't done.
use Rattle.std.proofs.Common.{length, ap, arith}
use Rattle.lfs_history.specs.History.{History}
use Rattle.lfs_session.proofs.CountLemmas.{future_count}
use Rattle.lfs_session.proofs.session.Session.redoable.Goals as goal

pub returns : goal.returns
returns c =
    let s = c.self.inside in
    let count = future_count s.image.disk s.patches.items s.done in
    let same = ap (λ (h : History). length h.future) c.self.view_is in
    omega arith
