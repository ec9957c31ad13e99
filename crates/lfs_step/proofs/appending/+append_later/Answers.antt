-- The changes behind the next are told behind it.
use Rattle.std.proofs.Common.{◌≡◌, ◌+◌, ◌-◌, ◌<◌, ◌≤◌, ◌++◌, false, List, length, get_or, rules, refl, ap, sym, ◌∙◌, subst, arith}
use Rattle.std.proofs.lemmas.List.{drop_all}
use Rattle.std.proofs.lemmas.Result.{err_from_is_err_and, IfErr-weaker, on_ok_weaker}
use Rattle.lfs_block.specs.Disk.{Disk, erased_block}
use Rattle.lfs_block.specs.Patch.{ChangeSet, AgreesNew, applied, reverted}
use Rattle.lfs_fs.specs.Mounted.{IsMountOf}
use Rattle.lfs_history.specs.History.{future_of}
use Rattle.lfs_history.proofs.MoveLemmas.{Make}
use Rattle.lfs_session.specs.Opened.{RefusesMount, RefusesMounts}
use Rattle.lfs_session.proofs.PlaceLemmas.{IsAt}
use Rattle.lfs_session.proofs.RoomLemmas.{each_at, room_same}
use Rattle.lfs_listing.specs.Difference.{difference}
use Rattle.lfs_step.specs.Between.{images_behind}
use Rattle.lfs_step.specs.Log.{change_line}
use Rattle.lfs_step.proofs.BetweenLemmas.{is_here, on_agrees, goes_on, lies_over}
use Rattle.lfs_step.proofs.AppendingLemmas.{appends_none, appends_next, next_refused, behind_refused}
use Rattle.lfs_step.proofs.appending.+append_later.Goals as goal

pub returns-then-at-course-clause-appended : goal.returns-then-at-course-clause-appended
returns-then-at-course-clause-appended t c =
    let d = c.args.image.now.disk in
    let ps = c.args.course.now.patches.now in
    appends_none c.args.course.now.form d c.args.mounted.now ps c.args.at c.args.course.now.done c.args.text.now.bytes.items
    (ap (λ (us : List ChangeSet). future_of us d) (drop_all c.args.at ps c.if-at-course.true))

pub after-after-requires : goal.after-after-requires
after-after-requires t c =
    let d = c.args.image.now.disk in
    let ps = c.args.course.now.patches.now in
    let i = c.args.at in
    let p = get_or ps i c.index-course-at.result in
    let at : IsAt ps i (i + 1) p = is_here ps i (i + 1) c.index-course-at.result refl c.if-at-course.false c.index-course-at.is in
    lies_over d ps i (i + 1) p c.args.course.now.erased.now at c.requires.between c.requires.erased

pub returns-in_err-next-clause-refused : goal.returns-in_err-next-clause-refused
returns-in_err-next-clause-refused t c =
    let d = c.args.image.now.disk in
    let ps = c.args.course.now.patches.now in
    let i = c.args.at in
    let p = get_or ps i c.index-course-at.result in
    let at : IsAt ps i (i + 1) p = is_here ps i (i + 1) c.index-course-at.result refl c.if-at-course.false c.index-course-at.is in
    let made = c.applied_patches_change_their_blocks.ensures in
    let back = c.applied_patches_revert.ensures in
    let law : Make = record { disk = made.disk; agrees = back.agrees; back = back.back } in
    let fault = c.in_err-next.field-0.0 in
    let to = goes_on law d (applied p d) ps i (i + 1) p at c.requires.between refl in
    let refused : RefusesMount fault c.after-after.result = search rules in
    let q = err_from_is_err_and c.from_residual.result c.from_residual.ensures.1 in
    rw (q.1, q.2) (next_refused fault d (applied p d) ps i (i + 1) to.later (subst (RefusesMount fault) c.after-after.ensures refused))

pub append_change-requires-clause-between : goal.append_change-requires-clause-between
append_change-requires-clause-between t c =
    let d = c.args.image.now.disk in
    let ps = c.args.course.now.patches.now in
    let i = c.args.at in
    let p = get_or ps i c.index-course-at.result in
    let at : IsAt ps i (i + 1) p = is_here ps i (i + 1) c.index-course-at.result refl c.if-at-course.false c.index-course-at.is in
    record { agrees = (on_agrees d ps i (i + 1) p at c.requires.between).1; is = c.after-after.ensures }

pub apply-requires-clause-room : goal.apply-requires-clause-room
apply-requires-clause-room t c =
    each_at (λ p. p.after ≤ c.args.image.now.room) c.args.course.now.patches.now c.args.at c.index-course-at.result c.requires.room c.if-at-course.false

pub append_later-appended-requires : goal.append_later-appended-requires
append_later-appended-requires t c =
    let d = c.args.image.now.disk in
    let ps = c.args.course.now.patches.now in
    let i = c.args.at in
    let p = get_or ps i c.index-course-at.result in
    let at : IsAt ps i (i + 1) p = is_here ps i (i + 1) c.index-course-at.result refl c.if-at-course.false c.index-course-at.is in
    let made = c.applied_patches_change_their_blocks.ensures in
    let back = c.applied_patches_revert.ensures in
    let law : Make = record { disk = made.disk; agrees = back.agrees; back = back.back } in
    let to = goes_on law d c.apply.new.image.disk ps i (i + 1) p at c.requires.between c.apply.ensures.applied in
    let room = c.args.image.now.room in
    let fewer : length ps - (i + 1) < t = omega (arith, c.decreases, c.if-at-course.false) in
    let next : IsMountOf c.after-after.result c.in_ok-next.next = search rules in
    let mounts = subst (λ (e : Disk). IsMountOf e c.in_ok-next.next) (c.after-after.ensures ∙ sym c.apply.ensures.applied) next in
    let works : c.append_change.new.text.has_failed ≡ false = search rules in (
      fewer,
      (
        to.between,
        (
          mounts,
          (
            room_same room c.apply.new.image.room ps c.apply.ensures.room c.requires.room,
            (c.requires.erased ∙ ap erased_block (sym to.size), works),
          ),
        ),
      ),
    )

pub revert-requires : goal.revert-requires
revert-requires t c =
    let d = c.args.image.now.disk in
    let ps = c.args.course.now.patches.now in
    let i = c.args.at in
    let p = get_or ps i c.index-course-at.result in
    let at : IsAt ps i (i + 1) p = is_here ps i (i + 1) c.index-course-at.result refl c.if-at-course.false c.index-course-at.is in
    let on = on_agrees d ps i (i + 1) p at c.requires.between in
    let to : c.append_later-appended.new.image.disk ≡ applied p d = c.append_later-appended.ensures.disk ∙ c.apply.ensures.applied in
    subst (AgreesNew p) (sym to) (c.applied_patches_revert.ensures.agrees p d c.requires.between.disk on.0.patch on.1)

pub returns-clause-disk : goal.returns-clause-disk
returns-clause-disk t c =
    let d = c.args.image.now.disk in
    let ps = c.args.course.now.patches.now in
    let i = c.args.at in
    let p = get_or ps i c.index-course-at.result in
    let at : IsAt ps i (i + 1) p = is_here ps i (i + 1) c.index-course-at.result refl c.if-at-course.false c.index-course-at.is in
    let on = on_agrees d ps i (i + 1) p at c.requires.between in
    let to : c.append_later-appended.new.image.disk ≡ applied p d = c.append_later-appended.ensures.disk ∙ c.apply.ensures.applied in
    c.revert.ensures.reverted ∙ ap (reverted p) to ∙ c.applied_patches_revert.ensures.back p d c.requires.between.disk on.0.patch on.1

pub returns-clause-appended : goal.returns-clause-appended
returns-clause-appended t c =
    let d = c.args.image.now.disk in
    let ps = c.args.course.now.patches.now in
    let i = c.args.at in
    let p = get_or ps i c.index-course-at.result in
    let at : IsAt ps i (i + 1) p = is_here ps i (i + 1) c.index-course-at.result refl c.if-at-course.false c.index-course-at.is in
    let made = c.applied_patches_change_their_blocks.ensures in
    let back = c.applied_patches_revert.ensures in
    let law : Make = record { disk = made.disk; agrees = back.agrees; back = back.back } in
    let to = goes_on law d c.apply.new.image.disk ps i (i + 1) p at c.requires.between c.apply.ensures.applied in
    let e = c.apply.new.image.disk in
    let m = c.args.mounted.now in
    let k = c.in_ok-next.next in
    let done = c.args.course.now.done in
    let old = c.args.text.now.bytes.items in
    let mid = c.append_change.new.text.bytes.items in
    let same : c.after-after.result ≡ e = c.after-after.ensures ∙ sym c.apply.ensures.applied in
    let next : IsMountOf c.after-after.result k = c.in_ok-next.ensures.mounted in
    let line : mid ≡ old ++ change_line c.args.course.now.form (i + 1) done ++ difference c.args.course.now.form d m.rows c.after-after.result k.rows = c.in_ok-append_change.ensures.appended in
    let told : mid ≡ old ++ change_line c.args.course.now.form (i + 1) done ++ difference c.args.course.now.form d m.rows e k.rows =
    line ∙ ap (λ (x : Disk). old ++ change_line c.args.course.now.form (i + 1) done ++ difference c.args.course.now.form d m.rows x k.rows) same in
    on_ok_weaker c.append_later-appended.result (appends_next c.args.course.now.form d e m k ps i (i + 1) done old mid c.append_later-appended.new.text.bytes.items refl to.later
    (subst (λ (x : Disk). IsMountOf x k) same next) told) c.append_later-appended.ensures.appended

pub returns-clause-refused : goal.returns-clause-refused
returns-clause-refused t c =
    let d = c.args.image.now.disk in
    let ps = c.args.course.now.patches.now in
    let i = c.args.at in
    let p = get_or ps i c.index-course-at.result in
    let at : IsAt ps i (i + 1) p = is_here ps i (i + 1) c.index-course-at.result refl c.if-at-course.false c.index-course-at.is in
    let made = c.applied_patches_change_their_blocks.ensures in
    let back = c.applied_patches_revert.ensures in
    let law : Make = record { disk = made.disk; agrees = back.agrees; back = back.back } in
    let to = goes_on law d c.apply.new.image.disk ps i (i + 1) p at c.requires.between c.apply.ensures.applied in
    let e = c.apply.new.image.disk in
    IfErr-weaker c.append_later-appended.result (λ fault. RefusesMounts fault (images_behind e ps (i + 1))) (λ fault. RefusesMounts fault (images_behind d ps i))
    (λ fault h. behind_refused fault d e ps i (i + 1) to.later h) c.append_later-appended.ensures.refused
