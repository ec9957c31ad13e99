-- The changes that were read lead to images that mount.
use Rattle.std.proofs.Common.{◌≡◌, ◌++◌, take, drop, reverse, rules, sym, ◌∙◌, subst}
use Rattle.std.proofs.lemmas.Result.{IfOk-from_err, err_from_is_err_and}
use Rattle.lfs_block.specs.Disk.{Disk}
use Rattle.lfs_fs.specs.Mounted.{IsOutlineOf}
use Rattle.lfs_history.specs.History.{past_of, future_of}
use Rattle.lfs_session.specs.Known.{HasRoom}
use Rattle.lfs_session.specs.Opened.{DenotesChanges, RefusesMounts}
use Rattle.lfs_session.proofs.OpeningLemmas.{IsFound, known_mounts, others_refused, parts_opened}
use Rattle.lfs_session.proofs.RoomLemmas.{room_same}
use Rattle.lfs_session.proofs.opening.read_history.Goals as goal

pub others_mount-requires-clause-agree : goal.others_mount-requires-clause-agree
others_mount-requires-clause-agree c =
    let read : DenotesChanges c.args.image.now.disk c.args.journal.now c.in_ok-outline.field-0.patches.items c.in_ok-outline.field-0.done = search rules in
    rw (c.deref.ensures.value, c.read_changes.ensures.disk) (read.agrees.back, read.agrees.on)

pub returns-in_err-others_mount-clause-refused : goal.returns-in_err-others_mount-clause-refused
returns-in_err-others_mount-clause-refused c =
    let d = c.args.image.now.disk in
    let ps = c.in_ok-outline.field-0.patches.items in
    let done = c.in_ok-outline.field-0.done in
    let bytes = c.args.journal.now in
    let read : DenotesChanges d bytes ps done = search rules in
    let known : IsOutlineOf d c.in_ok-outline.field-0.outline = search rules in
    let fault = c.in_err-others_mount.field-0.0 in
    let refused : RefusesMounts fault (past_of (reverse (take done ps)) d ++ future_of (drop done ps) d) = search rules in
    let p = err_from_is_err_and c.from_residual-in_err-others_mount.result c.from_residual-in_err-others_mount.ensures.1 in
    rw (p.1, p.2) (others_refused fault d bytes ps done (known_mounts d c.in_ok-outline.field-0.outline known) read refused)

pub returns-clause-opened : goal.returns-clause-opened
returns-clause-opened c =
    let d = c.args.image.now.disk in
    let ps = c.in_ok-outline.field-0.patches.items in
    let done = c.in_ok-outline.field-0.done in
    let bytes = c.args.journal.now in
    let outline = c.in_ok-outline.field-0.outline in
    let image = c.others_mount.new.image in
    let found : IsFound d bytes outline ps done = record {
      known = search rules;
      agreed = search rules;
      past = search rules;
      future = search rules;
    } in
    let same : image.disk ≡ d = c.others_mount.ensures.disk ∙ c.read_changes.ensures.disk in
    let room : HasRoom c.read_changes.new.image.room ps = search rules in
    parts_opened image bytes outline ps done (subst (λ (e : Disk). IsFound e bytes outline ps done) (sym same) found)
    (room_same c.read_changes.new.image.room image.room ps c.others_mount.ensures.room room)

pub returns-in_err-outline-clause-opened : goal.returns-in_err-outline-clause-opened
returns-in_err-outline-clause-opened c = IfOk-from_err c.from_residual.result _ c.from_residual.ensures.0

pub returns-in_err-others_mount-clause-opened : goal.returns-in_err-others_mount-clause-opened
returns-in_err-others_mount-clause-opened c = IfOk-from_err c.from_residual-in_err-others_mount.result _ c.from_residual-in_err-others_mount.ensures.0
