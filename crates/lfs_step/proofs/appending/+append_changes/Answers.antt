-- All changes are told from the image before the latest, and so from the oldest.
use Rattle.std.proofs.Common.{◌≡◌, ◌-◌, ◌<◌, ◌≤◌, ℕ, length, get_or, rules, ap, sym, ◌∙◌, subst, arith}
use Rattle.std.proofs.lemmas.Result.{IfErr-weaker, on_ok_weaker}
use Rattle.lfs_block.specs.Disk.{erased_block}
use Rattle.lfs_block.specs.Patch.{AgreesOld, applied, reverted}
use Rattle.lfs_fs.specs.Mounted.{IsMountOf}
use Rattle.lfs_history.proofs.MoveLemmas.{TakeBack}
use Rattle.lfs_session.specs.Opened.{RefusesMounts}
use Rattle.lfs_session.proofs.PlaceLemmas.{IsAt}
use Rattle.lfs_session.proofs.RoomLemmas.{each_at, room_same}
use Rattle.lfs_step.specs.Between.{images_at, images_behind}
use Rattle.lfs_step.proofs.BetweenLemmas.{is_here, back_agrees, goes_back}
use Rattle.lfs_step.proofs.AppendingLemmas.{appends_first, appends_back, first_image_refused}
use Rattle.lfs_step.proofs.appending.+append_changes.Goals as goal

pub returns-then-at-eq0-clause-appended : goal.returns-then-at-eq0-clause-appended
returns-then-at-eq0-clause-appended t c =
    let d = c.args.image.now.disk in
    let m = c.in_ok-mounted.mounted in
    let mounts : IsMountOf d m = search rules in
    on_ok_weaker c.append_later.result (appends_first c.args.course.now.form d m c.args.course.now.patches.now c.args.at c.args.course.now.done c.args.text.now.bytes.items
    c.append_later.new.text.bytes.items c.if-at-eq0.true mounts) c.append_later.ensures.appended

pub returns-then-at-eq0-clause-refused : goal.returns-then-at-eq0-clause-refused
returns-then-at-eq0-clause-refused t c =
    let d = c.args.image.now.disk in
    let ps = c.args.course.now.patches.now in
    IfErr-weaker c.append_later.result (λ fault. RefusesMounts fault (images_behind d ps 0)) (λ fault. RefusesMounts fault (images_at d ps c.args.at))
    (λ fault h. first_image_refused fault d ps c.args.at c.if-at-eq0.true h) c.append_later.ensures.refused

pub revert-requires : goal.revert-requires
revert-requires t c =
    let d = c.args.image.now.disk in
    let ps = c.args.course.now.patches.now in
    let j = c.args.at in
    let i = j - 1 in
    let p = get_or ps i c.index-course-at.result in
    let within : j ≤ length ps = c.requires.between.within in
    let at : IsAt ps i j p = is_here ps i j c.index-course-at.result (omega (arith, c.if-at-eq0.false)) (omega (arith, c.if-at-eq0.false)) c.index-course-at.is in
    (back_agrees d ps i j p at c.requires.between).1

pub append_changes-appended-requires : goal.append_changes-appended-requires
append_changes-appended-requires t c =
    let d = c.args.image.now.disk in
    let ps = c.args.course.now.patches.now in
    let j = c.args.at in
    let i = j - 1 in
    let p = get_or ps i c.index-course-at.result in
    let within : j ≤ length ps = c.requires.between.within in
    let at : IsAt ps i j p = is_here ps i j c.index-course-at.result (omega (arith, c.if-at-eq0.false)) (omega (arith, c.if-at-eq0.false)) c.index-course-at.is in
    let again = c.reverted_patches_apply_again.ensures in
    let law : TakeBack = record { disk = again.disk; agrees = again.agrees; again = again.again } in
    let to = goes_back law d c.revert.new.image.disk ps i j p at c.requires.between c.revert.ensures.reverted in
    let fewer : i < t = omega (arith, c.decreases, c.if-at-eq0.false) in (
      fewer,
      (
        to.between,
        (
          room_same c.args.image.now.room c.revert.new.image.room ps c.revert.ensures.room c.requires.room,
          (c.requires.erased ∙ ap erased_block (sym to.size), c.requires.works),
        ),
      ),
    )

pub apply-requires-clause-agrees : goal.apply-requires-clause-agrees
apply-requires-clause-agrees t c =
    let d = c.args.image.now.disk in
    let ps = c.args.course.now.patches.now in
    let j = c.args.at in
    let i = j - 1 in
    let p = get_or ps i c.index-course-at.result in
    let within : j ≤ length ps = c.requires.between.within in
    let at : IsAt ps i j p = is_here ps i j c.index-course-at.result (omega (arith, c.if-at-eq0.false)) (omega (arith, c.if-at-eq0.false)) c.index-course-at.is in
    let latest = back_agrees d ps i j p at c.requires.between in
    let to : c.append_changes-appended.new.image.disk ≡ reverted p d = c.append_changes-appended.ensures.disk ∙ c.revert.ensures.reverted in
    subst (AgreesOld p) (sym to) (c.reverted_patches_apply_again.ensures.agrees p d c.requires.between.disk latest.0.patch latest.1)

pub apply-requires-clause-room : goal.apply-requires-clause-room
apply-requires-clause-room t c =
    let d = c.args.image.now.disk in
    let ps = c.args.course.now.patches.now in
    let j = c.args.at in
    let i = j - 1 in
    let p = get_or ps i c.index-course-at.result in
    let within : j ≤ length ps = c.requires.between.within in
    let at : IsAt ps i j p = is_here ps i j c.index-course-at.result (omega (arith, c.if-at-eq0.false)) (omega (arith, c.if-at-eq0.false)) c.index-course-at.is in
    subst (λ (n : ℕ). p.after ≤ n) (sym (c.append_changes-appended.ensures.room ∙ c.revert.ensures.room))
    (each_at (λ q. q.after ≤ c.args.image.now.room) ps i c.index-course-at.result c.requires.room at.within)

pub returns-clause-disk : goal.returns-clause-disk
returns-clause-disk t c =
    let d = c.args.image.now.disk in
    let ps = c.args.course.now.patches.now in
    let j = c.args.at in
    let i = j - 1 in
    let p = get_or ps i c.index-course-at.result in
    let within : j ≤ length ps = c.requires.between.within in
    let at : IsAt ps i j p = is_here ps i j c.index-course-at.result (omega (arith, c.if-at-eq0.false)) (omega (arith, c.if-at-eq0.false)) c.index-course-at.is in
    let latest = back_agrees d ps i j p at c.requires.between in
    let to : c.append_changes-appended.new.image.disk ≡ reverted p d = c.append_changes-appended.ensures.disk ∙ c.revert.ensures.reverted in
    c.apply.ensures.applied ∙ ap (applied p) to ∙ c.reverted_patches_apply_again.ensures.again p d c.requires.between.disk latest.0.patch latest.1

pub returns-clause-appended : goal.returns-clause-appended
returns-clause-appended t c =
    let d = c.args.image.now.disk in
    let ps = c.args.course.now.patches.now in
    let j = c.args.at in
    let i = j - 1 in
    let p = get_or ps i c.index-course-at.result in
    let within : j ≤ length ps = c.requires.between.within in
    let at : IsAt ps i j p = is_here ps i j c.index-course-at.result (omega (arith, c.if-at-eq0.false)) (omega (arith, c.if-at-eq0.false)) c.index-course-at.is in
    let again = c.reverted_patches_apply_again.ensures in
    let law : TakeBack = record { disk = again.disk; agrees = again.agrees; again = again.again } in
    let to = goes_back law d c.revert.new.image.disk ps i j p at c.requires.between c.revert.ensures.reverted in
    on_ok_weaker c.append_changes-appended.result (appends_back c.args.course.now.form d c.revert.new.image.disk ps i j c.args.course.now.done c.args.text.now.bytes.items
    c.append_changes-appended.new.text.bytes.items to.images) c.append_changes-appended.ensures.appended

pub returns-clause-refused : goal.returns-clause-refused
returns-clause-refused t c =
    let d = c.args.image.now.disk in
    let ps = c.args.course.now.patches.now in
    let j = c.args.at in
    let i = j - 1 in
    let p = get_or ps i c.index-course-at.result in
    let within : j ≤ length ps = c.requires.between.within in
    let at : IsAt ps i j p = is_here ps i j c.index-course-at.result (omega (arith, c.if-at-eq0.false)) (omega (arith, c.if-at-eq0.false)) c.index-course-at.is in
    let again = c.reverted_patches_apply_again.ensures in
    let law : TakeBack = record { disk = again.disk; agrees = again.agrees; again = again.again } in
    let to = goes_back law d c.revert.new.image.disk ps i j p at c.requires.between c.revert.ensures.reverted in
    IfErr-weaker c.append_changes-appended.result (λ fault. RefusesMounts fault (images_at c.revert.new.image.disk ps i))
    (λ fault. RefusesMounts fault (images_at d ps j)) (λ fault h. subst (RefusesMounts fault) to.images h) c.append_changes-appended.ensures.refused
