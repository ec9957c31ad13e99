-- All changes that the journal denotes are told.
use Rattle.std.proofs.Common.{List, rules, subst}
use Rattle.std.proofs.lemmas.Result.{err_from_is_err_and}
use Rattle.lfs_block.specs.Disk.{Disk}
use Rattle.lfs_block.specs.Patch.{ChangeSet}
use Rattle.lfs_fs.specs.Mounted.{IsOutlineOf}
use Rattle.lfs_session.specs.Opened.{DenotesChanges, RefusesMounts}
use Rattle.lfs_session.proofs.OpeningLemmas.{known_mounts}
use Rattle.lfs_step.specs.Between.{AppendsChanges, images_at}
use Rattle.lfs_step.proofs.LogLemmas.{logged, images_refused}
use Rattle.lfs_step.proofs.log.log_of.Goals as goal

pub returns-in_err-append_changes-clause-refused : goal.returns-in_err-append_changes-clause-refused
returns-in_err-append_changes-clause-refused c =
    let d = c.args.image.now.disk in
    let e = c.read_changes.new.image.disk in
    let ps = c.in_ok-patches.field-0.patches.items in
    let done = c.in_ok-patches.field-0.done in
    let outline = c.in_ok-patches.field-0.outline in
    let read : DenotesChanges d c.args.journal.now ps done = search rules in
    let known : IsOutlineOf d outline = search rules in
    let fault = c.in_err-append_changes.field-0.0 in
    let refused : RefusesMounts fault (images_at e c.deref.result.now done) = search rules in
    let same : RefusesMounts fault (images_at d ps done) = subst (λ (x : Disk). RefusesMounts fault (images_at x ps done)) c.read_changes.ensures.disk
    (subst (λ (xs : List ChangeSet). RefusesMounts fault (images_at e xs done)) c.deref.ensures.value refused) in
    let p = err_from_is_err_and c.from_residual-in_err-append_changes.result c.from_residual-in_err-append_changes.ensures.1 in
    rw (p.1, p.2) (images_refused c.mounted_images_have_no_cause.ensures fault d c.args.journal.now ps done (known_mounts d outline known) read same)

pub returns-clause-text : goal.returns-clause-text
returns-clause-text c =
    let d = c.args.image.now.disk in
    let e = c.read_changes.new.image.disk in
    let ps = c.in_ok-patches.field-0.patches.items in
    let done = c.in_ok-patches.field-0.done in
    let old = c.new-text.result.bytes.items in
    let new = c.append_changes.new.text.bytes.items in
    let read : DenotesChanges d c.args.journal.now ps done = search rules in
    let told : AppendsChanges c.args.form e c.deref.result.now done done old new = search rules in
    let same : AppendsChanges c.args.form d ps done done old new = subst (λ (x : Disk). AppendsChanges c.args.form x ps done done old new) c.read_changes.ensures.disk
    (subst (λ (xs : List ChangeSet). AppendsChanges c.args.form e xs done done old new) c.deref.ensures.value told) in
    logged c.args.form d c.args.journal.now ps done old new read c.new-text.ensures.empty same
