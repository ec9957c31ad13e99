-- One image of the past for each change that is done.
use Rattle.std.proofs.Common.{length, ap, sym, ◌∙◌}
use Rattle.lfs_history.specs.History.{History}
use Rattle.lfs_session.proofs.CountLemmas.{past_count}
use Rattle.lfs_session.proofs.session.Session.undoable.Goals as goal

pub returns : goal.returns
returns c =
    let s = c.self.inside in
    sym (past_count s.image.disk s.patches.items s.done c.self.invariant.at.within) ∙ ap (λ (h : History). length h.past) c.self.view_is
