-- The change before the place is taken back.
use Rattle.std.proofs.Common.{ℕ, ◌-◌, reverse, take, refl, ap, sym, ◌∙◌, subst, arith}
use Rattle.lfs_history.specs.History.{History, history_at, past_of}
use Rattle.lfs_history.specs.Moves.{Undoes}
use Rattle.lfs_session.proofs.PlaceLemmas.{is_at, made_agrees, undone_at}
use Rattle.lfs_session.proofs.RoomLemmas.{room_same}
use Rattle.lfs_session.proofs.session.Session.undo.Goals as goal

pub revert-requires : goal.revert-requires
revert-requires c =
    let s = c.self.inside in
    let within = c.self.invariant.at.within in
    let at = is_at s.patches.items (s.done - 1) s.done c.index.result.now (omega arith) (omega arith) c.index.ensures in
    (made_agrees s.image.disk s.patches.items (s.done - 1) s.done c.index.result.now at c.self.invariant.at).1

pub invariant_of-self : goal.invariant_of-self
invariant_of-self c =
    let s = c.self.inside in
    let within = c.self.invariant.at.within in
    let law = c.reverted_patches_apply_again.ensures in
    let at = is_at s.patches.items (s.done - 1) s.done c.index.result.now (omega arith) (omega arith) c.index.ensures in
    record {
      at = (undone_at (record { disk = law.disk; agrees = law.agrees; again = law.again }) s.image.disk c.revert.new.image.disk s.patches.items
          (s.done - 1) s.done c.index.result.now
          at c.self.invariant.at c.revert.ensures.reverted).keeps;
      known = tt;
      room = room_same s.image.room c.revert.new.image.room s.patches.items c.revert.ensures.room c.self.invariant.room;
    }

pub returns-clause-done : goal.returns-clause-done
returns-clause-done c =
    let s = c.self.inside in
    let within = c.self.invariant.at.within in
    let law = c.reverted_patches_apply_again.ensures in
    let at = is_at s.patches.items (s.done - 1) s.done c.index.result.now (omega arith) (omega arith) c.index.ensures in
    let to = undone_at (record { disk = law.disk; agrees = law.agrees; again = law.again }) s.image.disk c.revert.new.image.disk s.patches.items
    (s.done - 1) s.done c.index.result.now
    at c.self.invariant.at c.revert.ensures.reverted in
    subst (λ (old : History). Undoes old (history_at c.revert.new.image.disk s.patches.items (s.done - 1))) c.self.view_is to.moves

pub returns-then-self-eq0-clause-refused : goal.returns-then-self-eq0-clause-refused
returns-then-self-eq0-clause-refused c =
    let s = c.self.inside in
    let none = ap (λ (n : ℕ). past_of (reverse (take n s.patches.items)) s.image.disk) c.if-self-eq0.true in
    (refl, sym (ap (λ (h : History). h.past) c.self.view_is) ∙ none, refl)
