-- There is room for a change.
use Rattle.std.proofs.Common.{◌<◌, length, take, subst, arith}
use Rattle.std.proofs.lemmas.List.{length-take-le}
use Rattle.lfs_journal.specs.Book.{most_changes}
use Rattle.lfs_history.specs.History.{History}
use Rattle.lfs_session.proofs.session.Session.command.Goals as goal

pub push-requires : goal.push-requires
push-requires c =
    let s = c.self.inside in
    let within = c.self.invariant.at.within in
    let len = length-take-le s.done s.patches.items within in
    let made : length (take s.done s.patches.items) < most_changes = omega arith in
    subst (λ (h : History). length h.done < most_changes) c.self.view_is made
