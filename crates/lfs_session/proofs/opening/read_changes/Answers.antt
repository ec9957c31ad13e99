-- The changes that were read agree with the image.
use Rattle.std.proofs.Common.{◌≡◌, ◌≢◌, ◌≤◌, List, length, take, drop, reverse, subst, sym, ◌∙◌}
use Rattle.std.proofs.lemmas.Result.{IfOk-from_err, err_from_is_err_and}
use Rattle.lfs_history.specs.Faults.{opened_fault}
use Rattle.lfs_history.specs.History.{GoesBack, GoesForward}
use Rattle.lfs_history.specs.declared.open_fault.OpenFault.TheVariants.{JournalImage, Mount}
use Rattle.lfs_session.specs.Known.{HaveSize, HasRoom}
use Rattle.lfs_session.proofs.OpeningLemmas.{agreed, book_patches, book_sizes, journal_is_other, mount_is_other, mount_mounts, no_journal, refused_as, not_agreed, mount_outlined}
use Rattle.lfs_history.specs.Opening.{HasHistory}
use Rattle.lfs_fs.specs.Mounted.{IsOutlineOf}
use Rattle.lfs_session.proofs.RoomLemmas.{room_same}
use Rattle.lfs_block.specs.Disk.{Disk, IsDisk}
use Rattle.lfs_block.specs.Patch.{ChangeSet}
use Rattle.lfs_session.proofs.opening.read_changes.Goals as goal
use Rattle.lfs_session.proofs.opening.read_changes.Goals.{then-size-via-then-size, then-size-via-else-size+then-count}

pub reserve_for-requires-clause-patches : goal.reserve_for-requires-clause-patches
reserve_for-requires-clause-patches c =
    let book = c.into_parts-patches.ensures.book in
    rw (c.deref.ensures.value) (book_patches _ _ c.into_parts-patches.result.0.items c.into_parts-patches.result.1 book)

pub reserve_for-requires-clause-size : goal.reserve_for-requires-clause-size
reserve_for-requires-clause-size c =
    let j = c.in_ok-journal.journal in
    let d = c.args.image.now.disk in
    let ps = c.into_parts-patches.result.0.items in
    let size : j.size ≡ d.size = sym c.size.ensures.size ∙ c.if-size.false ∙ c.size-2.ensures.value in
    rw (c.deref.ensures.value) (subst (λ n. HaveSize n ps) size (book_sizes j.size j.count ps c.into_parts-patches.result.1 c.into_parts-patches.ensures.book))

pub agree-requires-clause-patches : goal.agree-requires-clause-patches
agree-requires-clause-patches c =
    let book = c.into_parts-patches.ensures.book in
    rw (c.deref-2.ensures.value) (book_patches _ _ c.into_parts-patches.result.0.items c.into_parts-patches.result.1 book)

pub returns-clause-read : goal.returns-clause-read
returns-clause-read c =
    let d = c.args.image.now.disk in
    let j = c.in_ok-journal.journal in
    let ps = c.into_parts-patches.result.0.items in
    let done = c.into_parts-patches.result.1 in
    let e = c.reserve_for.new.image.disk in
    let both : GoesBack (reverse (take done ps)) d × GoesForward (drop done ps) d =
    subst (λ (x : Disk). GoesBack (reverse (take done ps)) x × GoesForward (drop done ps) x) c.reserve_for.ensures.disk
    (subst (λ (qs : List ChangeSet). GoesBack (reverse (take done qs)) e × GoesForward (drop done qs) e) c.deref-2.ensures.value
    (c.agree.ensures.agrees.0 c.if-not-agree.false)) in
    let size : j.size ≡ d.size = sym c.size.ensures.size ∙ c.if-size.false ∙ c.size-2.ensures.value in
    let count : j.count ≡ d.count = sym c.count.ensures ∙ c.if-count.false ∙ c.count-else-size.ensures in
    agreed d c.args.journal.now j ps done c.size-2.ensures.disk c.in_ok-journal.ensures.spelled
    c.into_parts-patches.ensures.parts c.into_parts-patches.ensures.book.within size count both.0 both.1

pub returns-in_err-mount-clause-read : goal.returns-in_err-mount-clause-read
returns-in_err-mount-clause-read c = IfOk-from_err c.from_residual.result _ c.from_residual.ensures.0

pub returns-in_err-mount-clause-outline : goal.returns-in_err-mount-clause-outline
returns-in_err-mount-clause-outline c = IfOk-from_err c.from_residual.result _ c.from_residual.ensures.0

pub returns-in_err-mount-clause-room : goal.returns-in_err-mount-clause-room
returns-in_err-mount-clause-room c = IfOk-from_err c.from_residual.result _ c.from_residual.ensures.0

pub returns-in_err-mount-clause-refused : goal.returns-in_err-mount-clause-refused
returns-in_err-mount-clause-refused c =
    let on = c.from_residual in
    let fault = c.in_err-mount.field-0.0 in
    let p = err_from_is_err_and on.result on.ensures.1 in
    refused_as on.result _ (Mount fault) p.0 p.1 p.2 c.in_err-mount.ensures.refused

pub returns-in_err-journal-clause-read : goal.returns-in_err-journal-clause-read
returns-in_err-journal-clause-read c = IfOk-from_err c.from_residual-in_err-journal.result _ c.from_residual-in_err-journal.ensures.0

pub returns-in_err-journal-clause-outline : goal.returns-in_err-journal-clause-outline
returns-in_err-journal-clause-outline c = IfOk-from_err c.from_residual-in_err-journal.result _ c.from_residual-in_err-journal.ensures.0

pub returns-in_err-journal-clause-room : goal.returns-in_err-journal-clause-room
returns-in_err-journal-clause-room c = IfOk-from_err c.from_residual-in_err-journal.result _ c.from_residual-in_err-journal.ensures.0

pub returns-in_err-journal-clause-refused : goal.returns-in_err-journal-clause-refused
returns-in_err-journal-clause-refused c =
    let d = c.args.image.now.disk in
    let on = c.from_residual-in_err-journal in
    let fault = c.in_err-journal.field-0.0 in
    let p = err_from_is_err_and on.result on.ensures.1 in
    refused_as on.result _ (opened_fault fault) p.0 p.1 p.2
    (no_journal fault d c.args.journal.now (mount_mounts d c.in_ok-mount.field-0 c.in_ok-mount.ensures.mounted) c.in_err-journal.ensures.refused)

pub returns-in_err-mount-clause-unasked : goal.returns-in_err-mount-clause-unasked
returns-in_err-mount-clause-unasked c =
    let on = c.from_residual in
    let fault = c.in_err-mount.field-0.0 in
    let p = err_from_is_err_and on.result on.ensures.1 in
    refused_as on.result (λ f. f ≢ JournalImage) (Mount fault) p.0 p.1 p.2 (mount_is_other fault)

pub returns-in_err-journal-clause-unasked : goal.returns-in_err-journal-clause-unasked
returns-in_err-journal-clause-unasked c =
    let on = c.from_residual-in_err-journal in
    let fault = c.in_err-journal.field-0.0 in
    let p = err_from_is_err_and on.result on.ensures.1 in
    refused_as on.result (λ f. f ≢ JournalImage) (opened_fault fault) p.0 p.1 p.2 (journal_is_other fault)

pub returns-then-size-clause-refused : goal.returns-then-size-clause-refused
returns-then-size-clause-refused c =
    let d = c.args.image.now.disk in
    let j = c.in_ok-journal.journal in
    let not : HasHistory d j → ⊥ = λ has. elim c.then-size.branch [
      | then-size-via-then-size w ↦ w.if-size.true (c.size.ensures.size ∙ has.size ∙ sym c.size-2.ensures.value)
      | then-size-via-else-size+then-count w ↦ w.if-count.true (w.count.ensures ∙ has.count ∙ sym w.count-else-size.ensures)
    ] in
    (mount_mounts d c.in_ok-mount.field-0 c.in_ok-mount.ensures.mounted, j, c.in_ok-journal.ensures.spelled, not)

pub returns-then-not-agree-clause-refused : goal.returns-then-not-agree-clause-refused
returns-then-not-agree-clause-refused c =
    let d = c.args.image.now.disk in
    let j = c.in_ok-journal.journal in
    let ps = c.into_parts-patches.result.0.items in
    let done = c.into_parts-patches.result.1 in
    let not = not_agreed d c.reserve_for.new.image.disk j ps c.deref-2.result.now done c.agree.result c.reserve_for.ensures.disk
    c.into_parts-patches.ensures.parts c.deref-2.ensures.value c.agree.ensures.agrees c.if-not-agree.true in
    (mount_mounts d c.in_ok-mount.field-0 c.in_ok-mount.ensures.mounted, j, c.in_ok-journal.ensures.spelled, not)

pub returns-clause-outline : goal.returns-clause-outline
returns-clause-outline c =
    let d = c.args.image.now.disk in
    subst (IsOutlineOf d) (sym c.into_outline-outline.ensures) (mount_outlined d c.in_ok-mount.field-0 c.in_ok-mount.ensures.mounted)

pub returns-clause-room : goal.returns-clause-room
returns-clause-room c =
    let room = c.reserve_for.new.image.room in
    room_same room c.agree.new.image.room c.into_parts-patches.result.0.items c.agree.ensures.room
    (subst (HasRoom room) c.deref.ensures.value (c.reserve_for.ensures.room c.if-not-reserve_for.false))

pub reserve_for-requires-clause-disk : goal.reserve_for-requires-clause-disk
reserve_for-requires-clause-disk c = c.size-2.ensures.disk

pub agree-requires-clause-disk : goal.agree-requires-clause-disk
agree-requires-clause-disk c = subst IsDisk (sym c.reserve_for.ensures.disk) c.size-2.ensures.disk

pub agree-requires-clause-within : goal.agree-requires-clause-within
agree-requires-clause-within c =
    subst (λ (ps : List ChangeSet). c.into_parts-patches.result.1 ≤ length ps) (sym c.deref-2.ensures.value)
    c.into_parts-patches.ensures.book.within

pub agree-requires-clause-room : goal.agree-requires-clause-room
agree-requires-clause-room c =
    subst (HasRoom c.reserve_for.new.image.room) (c.deref.ensures.value ∙ sym c.deref-2.ensures.value)
    (c.reserve_for.ensures.room c.if-not-reserve_for.false)

pub returns-then-not-agree-clause-disk : goal.returns-then-not-agree-clause-disk
returns-then-not-agree-clause-disk c = c.agree.ensures.disk ∙ c.reserve_for.ensures.disk

pub returns-clause-disk : goal.returns-clause-disk
returns-clause-disk c = c.agree.ensures.disk ∙ c.reserve_for.ensures.disk
