-- The change at the place is made again.
use Rattle.std.proofs.Common.{◌+◌, ◌≤◌, List, subst, arith, refl, ap, sym, ◌∙◌}
use Rattle.std.proofs.lemmas.List.{drop_all}
use Rattle.lfs_block.specs.Patch.{ChangeSet}
use Rattle.lfs_history.specs.History.{History, history_at, future_of}
use Rattle.lfs_history.specs.Moves.{Redoes}
use Rattle.lfs_session.proofs.PlaceLemmas.{is_at, redone_at}
use Rattle.lfs_session.proofs.RoomLemmas.{each_at, room_same}
use Rattle.lfs_session.proofs.session.Session.redo.Goals as goal

pub apply-requires-clause-room : goal.apply-requires-clause-room
apply-requires-clause-room c =
    let s = c.self.inside in
    let within = c.self.invariant.at.within in
    subst (λ (p : ChangeSet). p.after ≤ s.image.room) (sym c.index.ensures)
    (each_at (λ p. p.after ≤ s.image.room) s.patches.items s.done c.index.result.now c.self.invariant.room (omega arith))

pub invariant_of-self : goal.invariant_of-self
invariant_of-self c =
    let s = c.self.inside in
    let within = c.self.invariant.at.within in
    let made = c.applied_patches_change_their_blocks.ensures in
    let back = c.applied_patches_revert.ensures in
    let at = is_at s.patches.items s.done (s.done + 1) c.index.result.now refl (omega arith) c.index.ensures in
    record {
      at = (redone_at (record { disk = made.disk; agrees = back.agrees; back = back.back }) s.image.disk c.apply.new.image.disk
          s.patches.items s.done (s.done + 1) c.index.result.now at c.self.invariant.at c.apply.ensures.applied).keeps;
      known = tt;
      room = room_same s.image.room c.apply.new.image.room s.patches.items c.apply.ensures.room c.self.invariant.room;
    }

pub returns-clause-done : goal.returns-clause-done
returns-clause-done c =
    let s = c.self.inside in
    let within = c.self.invariant.at.within in
    let made = c.applied_patches_change_their_blocks.ensures in
    let back = c.applied_patches_revert.ensures in
    let at = is_at s.patches.items s.done (s.done + 1) c.index.result.now refl (omega arith) c.index.ensures in
    let to = redone_at (record { disk = made.disk; agrees = back.agrees; back = back.back }) s.image.disk c.apply.new.image.disk
    s.patches.items s.done (s.done + 1) c.index.result.now at c.self.invariant.at c.apply.ensures.applied in
    subst (λ (old : History). Redoes old (history_at c.apply.new.image.disk s.patches.items (s.done + 1))) c.self.view_is to.moves

pub returns-then-self-len-clause-refused : goal.returns-then-self-len-clause-refused
returns-then-self-len-clause-refused c =
    let s = c.self.inside in
    let none = drop_all s.done s.patches.items (omega arith) in
    (refl, sym (ap (λ (h : History). h.future) c.self.view_is) ∙ ap (λ (ps : List ChangeSet). future_of ps s.image.disk) none, refl)
