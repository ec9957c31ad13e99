-- Room is made, the planned patch is put at the place, and made, and what isn't kept is dropped.
use Rattle.std.proofs.Common.{◌≡◌, ◌≤◌, ℕ, List, ap, sym, ◌∙◌, subst, arith}
use Rattle.std.proofs.lemmas.Result.{IfOk-from_err, err_from_is_err_and}
use Rattle.lfs_block.specs.Disk.{Disk}
use Rattle.lfs_block.specs.Geometry.{IsGeometry}
use Rattle.lfs_block.specs.Patch.{ChangeSet, AgreesOld, applied}
use Rattle.lfs_fs.specs.Mounted.{IsOutlineOf}
use Rattle.lfs_command.specs.AskedFor.{asked_for}
use Rattle.lfs_command.specs.Planned.{RefusesPlan}
use Rattle.lfs_history.specs.History.{History, history_at}
use Rattle.lfs_history.specs.Taking.{Does, HasPlace}
use Rattle.lfs_session.specs.Known.{IsSession}
use Rattle.lfs_session.proofs.PlaceLemmas.{IsPut, put_is, put_makes, done_at, put_within}
use Rattle.lfs_session.proofs.RoomLemmas.{room_put, room_kept, room_same, session_grows}
use Rattle.lfs_session.proofs.session.Session.push.Goals as goal

pub returns-in_err-patch-clause-refused : goal.returns-in_err-patch-clause-refused
returns-in_err-patch-clause-refused c =
    let p = err_from_is_err_and c.from_residual.result c.from_residual.ensures.1 in
    rw (p.1, p.2) (
      c.requires,
      subst (λ (h : History). RefusesPlan h.present (asked_for c.args.command.now) c.in_err-patch.field-0.0) c.self.view_is
          c.in_err-patch.ensures.refused,
      c.self.view_is,
    )

pub reserve-requires : goal.reserve-requires
reserve-requires c =
    let s = c.self.inside in
    let change = c.in_ok-patch.field-0 in
    let plans = c.in_ok-patch.ensures.planned in
    rw c.after.ensures.value (subst (λ (n : ℕ). IsGeometry n change.patch.after) plans.stands.size plans.patch.patch.after)

pub returns-then-not-reserve-clause-refused : goal.returns-then-not-reserve-clause-refused
returns-then-not-reserve-clause-refused c =
    let s = c.self.inside in (
      c.requires,
      tt,
      ap (λ (d : Disk). history_at d s.patches.items s.done) c.reserve.ensures.disk ∙ c.self.view_is,
    )

pub returns-then-not-reserve-clause-unchanged : goal.returns-then-not-reserve-clause-unchanged
returns-then-not-reserve-clause-unchanged c =
    let s = c.self.inside in
    ap (λ (d : Disk). history_at d s.patches.items s.done) c.reserve.ensures.disk ∙ c.self.view_is

pub returns-in_err-replace_from-clause-refused : goal.returns-in_err-replace_from-clause-refused
returns-in_err-replace_from-clause-refused c =
    let s = c.self.inside in
    let p = err_from_is_err_and c.from_residual-in_err-replace_from.result c.from_residual-in_err-replace_from.ensures.1 in
    rw (p.1, p.2) (
      c.requires,
      tt,
      ap (λ (changes : List ChangeSet). history_at c.reserve.new.self.disk changes s.done) c.in_err-replace_from.ensures.unchanged
          ∙ ap (λ (d : Disk). history_at d s.patches.items s.done) c.reserve.ensures.disk ∙ c.self.view_is,
    )

pub returns-in_err-replace_from-clause-unchanged : goal.returns-in_err-replace_from-clause-unchanged
returns-in_err-replace_from-clause-unchanged c =
    let s = c.self.inside in
    let p = err_from_is_err_and c.from_residual-in_err-replace_from.result c.from_residual-in_err-replace_from.ensures.1 in
    rw (p.1)
    (ap (λ (changes : List ChangeSet). history_at c.reserve.new.self.disk changes s.done) c.in_err-replace_from.ensures.unchanged
    ∙ ap (λ (d : Disk). history_at d s.patches.items s.done) c.reserve.ensures.disk ∙ c.self.view_is)

pub apply-requires-clause-agrees : goal.apply-requires-clause-agrees
apply-requires-clause-agrees c =
    let s = c.self.inside in
    let change = c.in_ok-patch.field-0 in
    let q = c.index.result.now in
    let put : IsPut s.patches.items c.replace_from.new.patches.items s.done change.patch =
    record { all = c.in_ok-replace_from.ensures.done; within = c.self.invariant.at.within } in
    let same : q ≡ change.patch = put_is s.patches.items c.replace_from.new.patches.items s.done change.patch q put c.index.ensures in
    subst (AgreesOld q) (sym c.reserve.ensures.disk)
    (subst (λ (p : ChangeSet). AgreesOld p s.image.disk) (sym same) c.in_ok-patch.ensures.planned.stands)

pub apply-requires-clause-room : goal.apply-requires-clause-room
apply-requires-clause-room c =
    let s = c.self.inside in
    let change = c.in_ok-patch.field-0 in
    let q = c.index.result.now in
    let put : IsPut s.patches.items c.replace_from.new.patches.items s.done change.patch =
    record { all = c.in_ok-replace_from.ensures.done; within = c.self.invariant.at.within } in
    let same : q ≡ change.patch = put_is s.patches.items c.replace_from.new.patches.items s.done change.patch q put c.index.ensures in
    let fits = subst (λ (n : ℕ). n ≤ c.reserve.new.self.room) c.after.ensures.value (c.reserve.ensures.done_is c.if-not-reserve.false) in
    subst (λ (p : ChangeSet). p.after ≤ c.reserve.new.self.room) (sym same) fits

pub invariant_of-self-then-not-reserve : goal.invariant_of-self-then-not-reserve
invariant_of-self-then-not-reserve c =
    let s = c.self.inside in
    session_grows s.image c.reserve.new.self s.known c.carried_out.new.known s.patches.items s.done c.reserve.ensures.disk
    c.reserve.ensures.most c.self.invariant c.carried_out.ensures.known

pub invariant_of-self-in_err-replace_from : goal.invariant_of-self-in_err-replace_from
invariant_of-self-in_err-replace_from c =
    let s = c.self.inside in
    subst (λ (changes : List ChangeSet). IsSession c.reserve.new.self c.carried_out.new.known changes s.done)
    (sym c.in_err-replace_from.ensures.unchanged)
    (session_grows s.image c.reserve.new.self s.known c.carried_out.new.known s.patches.items s.done c.reserve.ensures.disk
    c.reserve.ensures.most c.self.invariant c.carried_out.ensures.known)

pub invariant_of-self-2 : goal.invariant_of-self-2
invariant_of-self-2 c =
    let s = c.self.inside in
    let made = c.applied_patches_change_their_blocks.ensures in
    let back = c.applied_patches_revert.ensures in
    let follow = c.cuts_follow.ensures in
    let change = c.in_ok-patch.field-0 in
    let q = c.index.result.now in
    let news = c.replace_from.new.patches.items in
    let put : IsPut s.patches.items news s.done change.patch =
    record { all = c.in_ok-replace_from.ensures.done; within = c.self.invariant.at.within } in
    let to : c.apply.new.image.disk ≡ applied q s.image.disk = c.apply.ensures.applied ∙ ap (applied q) c.reserve.ensures.disk in
    let fits = subst (λ (n : ℕ). n ≤ c.reserve.new.self.room) c.after.ensures.value (c.reserve.ensures.done_is c.if-not-reserve.false) in
    let place = subst (HasPlace c.args.keep) (sym c.self.view_is) c.requires in
    record {
      at = (done_at (record { disk = made.disk; agrees = back.agrees; back = back.back })
          (record { cut = follow.cut; clean = follow.clean }) (asked_for c.args.command.now) c.args.keep
          s.image.disk c.apply.new.image.disk s.patches.items news c.keep_latest-self-inside.new.patches.items s.done c.keep_latest-self-inside.result change.patch q
          put c.index.ensures c.keep_latest-self-inside.ensures.kept c.keep_latest-self-inside.ensures.left
          c.self.invariant.at place c.in_ok-patch.ensures.planned to).keeps;
      known = (
        subst (λ (e : Disk). IsOutlineOf e change.known.outline)
            (sym (put_makes s.image.disk c.apply.new.image.disk s.patches.items news s.done change.patch q put c.index.ensures to))
            c.in_ok-patch.ensures.outline,
        c.in_ok-patch.ensures.table,
      );
      room = room_same c.reserve.new.self.room c.apply.new.image.room c.keep_latest-self-inside.new.patches.items c.apply.ensures.room
          (room_kept c.reserve.new.self.room c.args.keep news c.keep_latest-self-inside.new.patches.items c.keep_latest-self-inside.ensures.kept
          (room_put s.image.room c.reserve.new.self.room s.patches.items news s.done change.patch c.reserve.ensures.most
          c.self.invariant.room fits c.in_ok-replace_from.ensures.done));
    }

pub returns-clause-done : goal.returns-clause-done
returns-clause-done c =
    let s = c.self.inside in
    let made = c.applied_patches_change_their_blocks.ensures in
    let back = c.applied_patches_revert.ensures in
    let follow = c.cuts_follow.ensures in
    let change = c.in_ok-patch.field-0 in
    let q = c.index.result.now in
    let news = c.replace_from.new.patches.items in
    let put : IsPut s.patches.items news s.done change.patch =
    record { all = c.in_ok-replace_from.ensures.done; within = c.self.invariant.at.within } in
    let is : c.apply.new.image.disk ≡ applied q s.image.disk = c.apply.ensures.applied ∙ ap (applied q) c.reserve.ensures.disk in
    let place = subst (HasPlace c.args.keep) (sym c.self.view_is) c.requires in
    let to = done_at (record { disk = made.disk; agrees = back.agrees; back = back.back })
    (record { cut = follow.cut; clean = follow.clean }) (asked_for c.args.command.now) c.args.keep
    s.image.disk c.apply.new.image.disk s.patches.items news c.keep_latest-self-inside.new.patches.items s.done c.keep_latest-self-inside.result change.patch q
    put c.index.ensures c.keep_latest-self-inside.ensures.kept c.keep_latest-self-inside.ensures.left
    c.self.invariant.at place c.in_ok-patch.ensures.planned is in
    subst (λ (old : History). Does (asked_for c.args.command.now) c.args.keep old
    (history_at c.apply.new.image.disk c.keep_latest-self-inside.new.patches.items c.keep_latest-self-inside.result)) c.self.view_is to.moves

pub returns-in_err-patch-clause-done : goal.returns-in_err-patch-clause-done
returns-in_err-patch-clause-done c = IfOk-from_err c.from_residual.result _ c.from_residual.ensures.0

pub returns-in_err-patch-clause-unchanged : goal.returns-in_err-patch-clause-unchanged
returns-in_err-patch-clause-unchanged c =
    let p = err_from_is_err_and c.from_residual.result c.from_residual.ensures.1 in
    rw (p.1) c.self.view_is

pub returns-in_err-replace_from-clause-done : goal.returns-in_err-replace_from-clause-done
returns-in_err-replace_from-clause-done c =
    IfOk-from_err c.from_residual-in_err-replace_from.result _ c.from_residual-in_err-replace_from.ensures.0

pub carried_out-requires-clause-mounts : goal.carried_out-requires-clause-mounts
carried_out-requires-clause-mounts c = c.self.invariant.at.history.mounts

pub carried_out-requires-clause-known : goal.carried_out-requires-clause-known
carried_out-requires-clause-known c = c.self.invariant.known

pub invariant_of-self : goal.invariant_of-self
invariant_of-self c = record { at = c.self.invariant.at; known = c.carried_out.ensures.known; room = c.self.invariant.room }

pub replace_from-requires : goal.replace_from-requires
replace_from-requires c = omega (arith, c.self.inside.patches.ok.0, c.self.invariant.at.within)

pub index-requires : goal.index-requires
index-requires c =
    let s = c.self.inside in
    let news = c.replace_from.new.patches in
    let put : IsPut s.patches.items news.items s.done c.in_ok-patch.field-0.patch =
    record { all = c.in_ok-replace_from.ensures.done; within = c.self.invariant.at.within } in
    omega (arith, news.ok.0, put_within s.patches.items news.items s.done c.in_ok-patch.field-0.patch put)
