-- An image among some is one among more.
use Rattle.std.proofs.Common.{◌++◌, List, take, drop, reverse, refl, rules, ◌∙◌}
use Rattle.std.specs.Prelude.{IfErr}
use Rattle.std.proofs.lemmas.Result.{IfErr-weaker, IfOk-from_err, err_from_is_err_and}
use Rattle.lfs_block.specs.Disk.{Disk}
use Rattle.lfs_block.specs.declared.mount_fault.MountFault.TheVariants.{Memory}
use Rattle.lfs_history.specs.declared.open_fault.OpenFault.TheVariants.{Mount}
use Rattle.lfs_history.specs.History.{past_of, future_of}
use Rattle.lfs_session.specs.Opened.{RefusesMounts}
use Rattle.lfs_session.proofs.OpeningLemmas.{refused_left, refused_right, refused_as}
use Rattle.lfs_session.proofs.opening.others_mount.Goals as goal

pub returns-in_err-mounts_back-clause-refused : goal.returns-in_err-mounts_back-clause-refused
returns-in_err-mounts_back-clause-refused c =
    let d = c.args.image.now.disk in
    let past : List Disk = past_of (reverse (take c.args.done c.args.patches.now)) d in
    let future : List Disk = future_of (drop c.args.done c.args.patches.now) d in
    let fault = c.in_err-mounts_back.field-0.0 in
    let refused : RefusesMounts fault past = search rules in
    let p = err_from_is_err_and c.from_residual-in_err-mounts_back.result c.from_residual-in_err-mounts_back.ensures.1 in
    rw (p.1, p.2) (refused_left fault past future refused)

pub returns-clause-refused : goal.returns-clause-refused
returns-clause-refused c =
    let d = c.args.image.now.disk in
    let past : List Disk = past_of (reverse (take c.args.done c.args.patches.now)) d in
    let future : List Disk = future_of (drop c.args.done c.args.patches.now) d in
    let refused : IfErr c.mounts_on.result (λ fault. RefusesMounts fault future) = search rules in
    IfErr-weaker c.mounts_on.result (λ fault. RefusesMounts fault future) (λ fault. RefusesMounts fault (past ++ future))
    (λ fault h. refused_right fault past future h) refused

pub returns-clause-future : goal.returns-clause-future
returns-clause-future c =
    rw (← c.split_at.ensures.back, ← c.mounts_back.ensures.disk) c.mounts_on.ensures.mounted

pub returns-in_err-erased-clause-refused : goal.returns-in_err-erased-clause-refused
returns-in_err-erased-clause-refused c =
    let p = err_from_is_err_and c.from_residual.result c.from_residual.ensures.1 in
    refused_as c.from_residual.result _ (Mount Memory) p.0 p.1 (p.2 ∙ c.in_err-erased.ensures.memory) refl

pub returns-in_err-erased-clause-past : goal.returns-in_err-erased-clause-past
returns-in_err-erased-clause-past c = IfOk-from_err c.from_residual.result _ c.from_residual.ensures.0

pub returns-in_err-erased-clause-future : goal.returns-in_err-erased-clause-future
returns-in_err-erased-clause-future c = IfOk-from_err c.from_residual.result _ c.from_residual.ensures.0

pub returns-in_err-mounts_back-clause-past : goal.returns-in_err-mounts_back-clause-past
returns-in_err-mounts_back-clause-past c = IfOk-from_err c.from_residual-in_err-mounts_back.result _ c.from_residual-in_err-mounts_back.ensures.0

pub returns-in_err-mounts_back-clause-future : goal.returns-in_err-mounts_back-clause-future
returns-in_err-mounts_back-clause-future c = IfOk-from_err c.from_residual-in_err-mounts_back.result _ c.from_residual-in_err-mounts_back.ensures.0

pub returns-in_err-mounts_back-clause-disk : goal.returns-in_err-mounts_back-clause-disk
returns-in_err-mounts_back-clause-disk c = c.mounts_back.ensures.disk

pub returns-clause-disk : goal.returns-clause-disk
returns-clause-disk c = c.mounts_on.ensures.disk ∙ c.mounts_back.ensures.disk

pub returns-clause-room : goal.returns-clause-room
returns-clause-room c = c.mounts_on.ensures.room ∙ c.mounts_back.ensures.room
