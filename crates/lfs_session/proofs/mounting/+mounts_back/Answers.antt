-- Behind the image before a change stand those before it.
use Rattle.std.proofs.Common.{◌≡◌, ◌<◌, ◌≤◌, ℕ, List, [], ◌∷◌, ◌++◌, length, reverse, sym, ap, ◌∙◌, subst, arith, length-append}
use Rattle.std.specs.List.{AllByRecursion}
use Rattle.std.proofs.lemmas.Result.{IfOk-weaker, IfErr-weaker, IfOk-from_err, err_from_is_err_and}
use Rattle.lfs_block.specs.Disk.{Disk, erased_block}
use Rattle.lfs_block.specs.Patch.{ChangeSet, AgreesOld, applied, reverted}
use Rattle.lfs_fs.specs.Mounted.{IsOutlineOf}
use Rattle.lfs_history.specs.History.{GoesBack, IsMounted, past_of}
use Rattle.lfs_session.specs.Known.{HasRoom}
use Rattle.lfs_session.specs.Opened.{RefusesMounts, RefusesMount}
use Rattle.lfs_history.proofs.MoveLemmas.{latest}
use Rattle.lfs_session.proofs.BesideLemmas.{known_before}
use Rattle.lfs_session.proofs.OpeningLemmas.{each_last, known_mounts, last_of, past_mounted, past_later_refused, none_before, past_first_refused, refused_as}
use Rattle.lfs_session.proofs.RoomLemmas.{room_same}
use Rattle.lfs_session.proofs.mounting.+mounts_back.Goals as goal

pub before-requires : goal.before-requires
before-requires t c =
    let p = c.in-Some.last.now in
    let ps = c.in-Some.earlier.now in
    let d = c.args.image.now.disk in
    let is : c.args.patches.now ≡ ps ++ p ∷ [] = c.in-Some.ensures.cases.0 in
    let back : GoesBack (p ∷ reverse ps) d = subst (λ (xs : List ChangeSet). GoesBack xs d) (latest ps c.args.patches.now p is) c.requires.agrees in
    record { patch = back.0.patch; size = back.1.size; erased = c.requires.erased; disk = c.requires.disk }

pub mounts_back-mounted-requires : goal.mounts_back-mounted-requires
mounts_back-mounted-requires t c =
    let p = c.in-Some.last.now in
    let ps = c.in-Some.earlier.now in
    let d = c.args.image.now.disk in
    let room = c.args.image.now.room in
    let is : c.args.patches.now ≡ ps ++ p ∷ [] = c.in-Some.ensures.cases.0 in
    let back : GoesBack (p ∷ reverse ps) d = subst (λ (xs : List ChangeSet). GoesBack xs d) (latest ps c.args.patches.now p is) c.requires.agrees in
    let size : c.revert.new.image.disk.size ≡ d.size = c.revert.ensures.disk.size ∙ back.1.size in
    let len = ap length is ∙ length-append ps (p ∷ []) in
    let fewer : length ps < t = omega (arith, len, c.decreases) in
    let later = subst (GoesBack (reverse ps)) (sym c.revert.ensures.reverted) back.2 in
    let more = room_same room c.revert.new.image.room ps c.revert.ensures.room
    (each_last (λ q. q.after ≤ room) ps p (subst (HasRoom room) is c.requires.room)).0 in
    let known = subst (λ (x : Disk). IsOutlineOf x c.in_ok-outline.outline) (c.before-2.ensures ∙ sym c.revert.ensures.reverted)
    c.in_ok-outline.ensures.mounted in
    (fewer, (c.revert.ensures.disk.disk, (known, (later, (more, c.requires.erased ∙ ap erased_block (sym size))))))

pub mounted_outline-requires : goal.mounted_outline-requires
mounted_outline-requires t c =
    let p = c.in-Some.last.now in
    let ps = c.in-Some.earlier.now in
    let d = c.args.image.now.disk in
    let is : c.args.patches.now ≡ ps ++ p ∷ [] = c.in-Some.ensures.cases.0 in
    let back : GoesBack (p ∷ reverse ps) d = subst (λ (xs : List ChangeSet). GoesBack xs d) (latest ps c.args.patches.now p is) c.requires.agrees in
    known_before c.flipped_patches_are_patches.ensures.patch c.kept_counts_change_their_blocks.ensures.disk
    c.kept_counts_change_their_blocks.ensures.blocks p d _ c.args.known c.requires.disk back.0.patch back.1 c.before-2.ensures c.requires.known

pub apply-requires-clause-agrees : goal.apply-requires-clause-agrees
apply-requires-clause-agrees t c =
    let p = c.in-Some.last.now in
    let ps = c.in-Some.earlier.now in
    let d = c.args.image.now.disk in
    let is : c.args.patches.now ≡ ps ++ p ∷ [] = c.in-Some.ensures.cases.0 in
    let back : GoesBack (p ∷ reverse ps) d = subst (λ (xs : List ChangeSet). GoesBack xs d) (latest ps c.args.patches.now p is) c.requires.agrees in
    let to : c.mounts_back-mounted.new.image.disk ≡ reverted p d = c.mounts_back-mounted.ensures.disk ∙ c.revert.ensures.reverted in
    subst (AgreesOld p) (sym to) (c.reverted_patches_apply_again.ensures.agrees p d c.requires.disk back.0.patch back.1)

pub apply-requires-clause-room : goal.apply-requires-clause-room
apply-requires-clause-room t c =
    let p = c.in-Some.last.now in
    let is : c.args.patches.now ≡ c.in-Some.earlier.now ++ p ∷ [] = c.in-Some.ensures.cases.0 in
    let fits = last_of (λ q. q.after ≤ c.args.image.now.room) c.args.patches.now c.in-Some.earlier.now p is c.requires.room in
    subst (λ (n : ℕ). p.after ≤ n) (sym (c.mounts_back-mounted.ensures.room ∙ c.revert.ensures.room)) fits

pub returns-clause-disk : goal.returns-clause-disk
returns-clause-disk t c =
    let p = c.in-Some.last.now in
    let ps = c.in-Some.earlier.now in
    let d = c.args.image.now.disk in
    let is : c.args.patches.now ≡ ps ++ p ∷ [] = c.in-Some.ensures.cases.0 in
    let back : GoesBack (p ∷ reverse ps) d = subst (λ (xs : List ChangeSet). GoesBack xs d) (latest ps c.args.patches.now p is) c.requires.agrees in
    let to : c.mounts_back-mounted.new.image.disk ≡ reverted p d = c.mounts_back-mounted.ensures.disk ∙ c.revert.ensures.reverted in
    c.apply.ensures.applied ∙ ap (applied p) to ∙ c.reverted_patches_apply_again.ensures.again p d c.requires.disk back.0.patch back.1

pub returns-clause-mounted : goal.returns-clause-mounted
returns-clause-mounted t c =
    let p = c.in-Some.last.now in
    let ps = c.in-Some.earlier.now in
    let d = c.args.image.now.disk in
    let is : c.args.patches.now ≡ ps ++ p ∷ [] = c.in-Some.ensures.cases.0 in
    let first : IsMounted (reverted p d) = subst IsMounted c.before-2.ensures (known_mounts _ c.in_ok-outline.outline c.in_ok-outline.ensures.mounted) in
    IfOk-weaker c.mounts_back-mounted.result (λ _. AllByRecursion IsMounted (past_of (reverse ps) c.revert.new.image.disk))
    (λ _. AllByRecursion IsMounted (past_of (reverse c.args.patches.now) d))
    (λ _ more. past_mounted c.args.patches.now ps p d c.revert.new.image.disk is c.revert.ensures.reverted first more)
    c.mounts_back-mounted.ensures.mounted

pub returns-clause-refused : goal.returns-clause-refused
returns-clause-refused t c =
    let p = c.in-Some.last.now in
    let ps = c.in-Some.earlier.now in
    let d = c.args.image.now.disk in
    let is : c.args.patches.now ≡ ps ++ p ∷ [] = c.in-Some.ensures.cases.0 in
    IfErr-weaker c.mounts_back-mounted.result (λ fault. RefusesMounts fault (past_of (reverse ps) c.revert.new.image.disk))
    (λ fault. RefusesMounts fault (past_of (reverse c.args.patches.now) d))
    (λ fault h. past_later_refused fault c.args.patches.now ps p d c.revert.new.image.disk is c.revert.ensures.reverted h)
    c.mounts_back-mounted.ensures.refused

pub returns-in_default-clause-mounted : goal.returns-in_default-clause-mounted
returns-in_default-clause-mounted t c = none_before c.args.patches.now c.args.image.now.disk c.in_default.ensures.cases

pub returns-in_err-outline-clause-mounted : goal.returns-in_err-outline-clause-mounted
returns-in_err-outline-clause-mounted t c = IfOk-from_err c.from_residual.result _ c.from_residual.ensures.0

pub returns-in_err-outline-clause-refused : goal.returns-in_err-outline-clause-refused
returns-in_err-outline-clause-refused t c =
    let p = c.in-Some.last.now in
    let ps = c.in-Some.earlier.now in
    let d = c.args.image.now.disk in
    let fault = c.in_err-outline.field-0.0 in
    let q = err_from_is_err_and c.from_residual.result c.from_residual.ensures.1 in
    refused_as c.from_residual.result _ fault q.0 q.1 q.2
    (past_first_refused fault c.args.patches.now ps p d c.in-Some.ensures.cases.0
    (subst (RefusesMount fault) c.before-2.ensures c.in_err-outline.ensures.refused))

pub returns-clause-room : goal.returns-clause-room
returns-clause-room t c = c.apply.ensures.room ∙ c.mounts_back-mounted.ensures.room ∙ c.revert.ensures.room

pub revert-requires : goal.revert-requires
revert-requires t c =
    let ps = c.in-Some.earlier.now in
    let is = latest ps c.args.patches.now c.in-Some.last.now c.in-Some.ensures.cases.0 in
    (subst (λ (xs : List ChangeSet). GoesBack xs c.args.image.now.disk) is c.requires.agrees).1
