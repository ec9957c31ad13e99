-- Before the images behind later changes stands the one behind the next.
use Rattle.std.proofs.Common.{◌≡◌, ◌<◌, List, ◌∷◌, length, sym, ap, ◌∙◌, subst, arith}
use Rattle.std.specs.List.{AllByRecursion}
use Rattle.std.proofs.lemmas.Result.{IfOk-weaker, IfErr-weaker, IfOk-from_err, err_from_is_err_and}
use Rattle.lfs_block.specs.Disk.{Disk, erased_block}
use Rattle.lfs_block.specs.Patch.{ChangeSet, AgreesNew, applied, reverted}
use Rattle.lfs_fs.specs.Mounted.{IsOutlineOf}
use Rattle.lfs_history.specs.History.{GoesForward, IsMounted, future_of}
use Rattle.lfs_session.specs.Known.{HasRoom}
use Rattle.lfs_session.specs.Opened.{RefusesMounts, RefusesMount}
use Rattle.lfs_session.proofs.BesideLemmas.{known_behind}
use Rattle.lfs_session.proofs.OpeningLemmas.{known_mounts, future_mounted, future_later_refused, none_behind, future_first_refused, refused_as}
use Rattle.lfs_session.proofs.RoomLemmas.{room_same}
use Rattle.lfs_session.proofs.mounting.+mounts_on.Goals as goal

pub after-requires : goal.after-requires
after-requires t c =
    let p = c.in-Some.first.now in
    let d = c.args.image.now.disk in
    let is : c.args.patches.now ≡ p ∷ c.in-Some.later.now = c.in-Some.ensures.cases.0 in
    let on : GoesForward (p ∷ c.in-Some.later.now) d = subst (λ (xs : List ChangeSet). GoesForward xs d) is c.requires.agrees in
    record { patch = on.0.patch; size = on.1.size; erased = c.requires.erased; disk = c.requires.disk }

pub apply-requires-clause-room : goal.apply-requires-clause-room
apply-requires-clause-room t c =
    let is : c.args.patches.now ≡ c.in-Some.first.now ∷ c.in-Some.later.now = c.in-Some.ensures.cases.0 in
    (subst (HasRoom c.args.image.now.room) is c.requires.room).0

pub mounts_on-mounted-requires : goal.mounts_on-mounted-requires
mounts_on-mounted-requires t c =
    let p = c.in-Some.first.now in
    let ps = c.in-Some.later.now in
    let d = c.args.image.now.disk in
    let room = c.args.image.now.room in
    let is : c.args.patches.now ≡ p ∷ ps = c.in-Some.ensures.cases.0 in
    let on : GoesForward (p ∷ ps) d = subst (λ (xs : List ChangeSet). GoesForward xs d) is c.requires.agrees in
    let size : c.apply.new.image.disk.size ≡ d.size = c.apply.ensures.disk.size ∙ on.1.size in
    let len = ap length is in
    let fewer : length ps < t = omega (arith, len, c.decreases) in
    let later = subst (GoesForward ps) (sym c.apply.ensures.applied) on.2 in
    let more = room_same room c.apply.new.image.room ps c.apply.ensures.room (subst (HasRoom room) is c.requires.room).1 in
    let known = subst (λ (x : Disk). IsOutlineOf x c.in_ok-outline.outline) (c.after.ensures ∙ sym c.apply.ensures.applied)
    c.in_ok-outline.ensures.mounted in
    (fewer, (c.apply.ensures.disk.disk, (known, (later, (more, c.requires.erased ∙ ap erased_block (sym size))))))

pub mounted_outline-requires : goal.mounted_outline-requires
mounted_outline-requires t c =
    let p = c.in-Some.first.now in
    let d = c.args.image.now.disk in
    let is : c.args.patches.now ≡ p ∷ c.in-Some.later.now = c.in-Some.ensures.cases.0 in
    let on : GoesForward (p ∷ c.in-Some.later.now) d = subst (λ (xs : List ChangeSet). GoesForward xs d) is c.requires.agrees in
    known_behind c.kept_counts_change_their_blocks.ensures.disk c.kept_counts_change_their_blocks.ensures.blocks p d _ c.args.known
    c.requires.disk on.0.patch on.1 c.after.ensures c.requires.known

pub revert-requires : goal.revert-requires
revert-requires t c =
    let p = c.in-Some.first.now in
    let d = c.args.image.now.disk in
    let is : c.args.patches.now ≡ p ∷ c.in-Some.later.now = c.in-Some.ensures.cases.0 in
    let on : GoesForward (p ∷ c.in-Some.later.now) d = subst (λ (xs : List ChangeSet). GoesForward xs d) is c.requires.agrees in
    let to : c.mounts_on-mounted.new.image.disk ≡ applied p d = c.mounts_on-mounted.ensures.disk ∙ c.apply.ensures.applied in
    subst (AgreesNew p) (sym to) (c.applied_patches_revert.ensures.agrees p d c.requires.disk on.0.patch on.1)

pub returns-clause-disk : goal.returns-clause-disk
returns-clause-disk t c =
    let p = c.in-Some.first.now in
    let d = c.args.image.now.disk in
    let is : c.args.patches.now ≡ p ∷ c.in-Some.later.now = c.in-Some.ensures.cases.0 in
    let on : GoesForward (p ∷ c.in-Some.later.now) d = subst (λ (xs : List ChangeSet). GoesForward xs d) is c.requires.agrees in
    let to : c.mounts_on-mounted.new.image.disk ≡ applied p d = c.mounts_on-mounted.ensures.disk ∙ c.apply.ensures.applied in
    c.revert.ensures.reverted ∙ ap (reverted p) to ∙ c.applied_patches_revert.ensures.back p d c.requires.disk on.0.patch on.1

pub returns-clause-refused : goal.returns-clause-refused
returns-clause-refused t c =
    let p = c.in-Some.first.now in
    let ps = c.in-Some.later.now in
    let d = c.args.image.now.disk in
    let is : c.args.patches.now ≡ p ∷ ps = c.in-Some.ensures.cases.0 in
    IfErr-weaker c.mounts_on-mounted.result (λ fault. RefusesMounts fault (future_of ps c.apply.new.image.disk))
    (λ fault. RefusesMounts fault (future_of c.args.patches.now d))
    (λ fault h. future_later_refused fault c.args.patches.now ps p d c.apply.new.image.disk is c.apply.ensures.applied h)
    c.mounts_on-mounted.ensures.refused

pub returns-clause-mounted : goal.returns-clause-mounted
returns-clause-mounted t c =
    let p = c.in-Some.first.now in
    let ps = c.in-Some.later.now in
    let d = c.args.image.now.disk in
    let is : c.args.patches.now ≡ p ∷ ps = c.in-Some.ensures.cases.0 in
    let first : IsMounted (applied p d) = subst IsMounted c.after.ensures (known_mounts _ c.in_ok-outline.outline c.in_ok-outline.ensures.mounted) in
    IfOk-weaker c.mounts_on-mounted.result (λ _. AllByRecursion IsMounted (future_of ps c.apply.new.image.disk))
    (λ _. AllByRecursion IsMounted (future_of c.args.patches.now d))
    (λ _ more. future_mounted c.args.patches.now ps p d c.apply.new.image.disk is c.apply.ensures.applied first more)
    c.mounts_on-mounted.ensures.mounted

pub apply-requires-clause-agrees : goal.apply-requires-clause-agrees
apply-requires-clause-agrees t c =
    (subst (λ (xs : List ChangeSet). GoesForward xs c.args.image.now.disk) c.in-Some.ensures.cases.0 c.requires.agrees).1

pub returns-in_default-clause-mounted : goal.returns-in_default-clause-mounted
returns-in_default-clause-mounted t c = none_behind c.args.patches.now c.args.image.now.disk c.in_default.ensures.cases

pub returns-in_err-outline-clause-mounted : goal.returns-in_err-outline-clause-mounted
returns-in_err-outline-clause-mounted t c = IfOk-from_err c.from_residual.result _ c.from_residual.ensures.0

pub returns-in_err-outline-clause-refused : goal.returns-in_err-outline-clause-refused
returns-in_err-outline-clause-refused t c =
    let p = c.in-Some.first.now in
    let ps = c.in-Some.later.now in
    let d = c.args.image.now.disk in
    let fault = c.in_err-outline.field-0.0 in
    let q = err_from_is_err_and c.from_residual.result c.from_residual.ensures.1 in
    refused_as c.from_residual.result _ fault q.0 q.1 q.2
    (future_first_refused fault c.args.patches.now ps p d c.in-Some.ensures.cases.0
    (subst (RefusesMount fault) c.after.ensures c.in_err-outline.ensures.refused))

pub returns-clause-room : goal.returns-clause-room
returns-clause-room t c = c.revert.ensures.room ∙ c.mounts_on-mounted.ensures.room ∙ c.apply.ensures.room
