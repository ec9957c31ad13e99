-- There is no room for a change.
use Rattle.std.proofs.Common.{◌≢◌, ◌≤◌, [], length, take, refl, subst, arith, rules}
use Rattle.std.proofs.lemmas.List.{length-take-le}
use Rattle.lfs_journal.specs.Book.{most_changes}
use Rattle.lfs_history.specs.History.{History}
use Rattle.lfs_session.proofs.TogetherLemmas.{full_for}
use Rattle.lfs_session.proofs.session.Session.together.Goals as goal

pub returns-then-self-clause-refused : goal.returns-then-self-clause-refused
returns-then-self-clause-refused c =
    let s = c.self.inside in
    let len = length-take-le s.done s.patches.items c.self.invariant.at.within in
    let made : most_changes ≤ length (take s.done s.patches.items) = omega arith in
    let some : c.args.commands.now ≢ [] = search rules in (
      full_for c.args.commands.now c.args.keep c.args.self.now some (search rules)
          (subst (λ (h : History). most_changes ≤ length h.done) c.self.view_is made),
      refl,
    )
