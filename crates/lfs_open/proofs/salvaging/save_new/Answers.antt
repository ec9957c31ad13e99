use Rattle.std.proofs.lemmas.Result.{err_from_is_err_and, IfOk-from_err}
use Rattle.lfs_host.specs.Scene.{Scene}
use Rattle.lfs_open.proofs.SavingLemmas.{there_unsaved, saving_stopped, saved_from}
use Rattle.std.proofs.Common.{◌∙◌}
use Rattle.lfs_open.proofs.salvaging.save_new.Goals as goal

pub returns-in_err-must_be_missing-clause-stopped : goal.returns-in_err-must_be_missing-clause-stopped
returns-in_err-must_be_missing-clause-stopped g c =
    let p = err_from_is_err_and c.from_residual.result c.from_residual.ensures.1 in
    let old : Scene = g.H.Known.known c.args.host.now in
    rw (p.1, p.2) (λ cause. there_unsaved c.args.disk.now.disk c.args.parts.now.disk cause c.args.dir.now old.tree old.made
    (g.H.Known.known c.must_be_missing.new.host) c.in_err-must_be_missing.field-0.0 c.in_err-must_be_missing.ensures.refused
    c.must_be_missing.ensures.kept.2)

pub returns-in_err-must_be_missing-clause-saved : goal.returns-in_err-must_be_missing-clause-saved
returns-in_err-must_be_missing-clause-saved g c = IfOk-from_err c.from_residual.result _ c.from_residual.ensures.0

pub returns-in-Ok-clause-saved : goal.returns-in-Ok-clause-saved
returns-in-Ok-clause-saved g c =
    let d = c.args.disk.now.disk in
    let e = c.args.parts.now.disk in
    let old : Scene = g.H.Known.known c.args.host.now in
    let mid : Scene = g.H.Known.known c.must_be_missing.new.host in
    let new : Scene = g.H.Known.known c.save_image.new.folder in (
      c.in_ok-must_be_missing.ensures.missing,
      saved_from d e c.args.dir.now mid.made old.made new.made c.in-Ok.saved c.must_be_missing.ensures.kept.2 c.in-Ok.ensures.saved,
    )

pub returns-in-Ok-clause-kept : goal.returns-in-Ok-clause-kept
returns-in-Ok-clause-kept g c =
    let first = c.must_be_missing.ensures.kept.0 in
    let then = c.save_image.ensures.kept in
    (then.0 ∙ first.0, then.1 ∙ first.1, then.2 ∙ first.2)

pub returns-in-Err-clause-stopped : goal.returns-in-Err-clause-stopped
returns-in-Err-clause-stopped g c =
    let d = c.args.disk.now.disk in
    let e = c.args.parts.now.disk in
    let dir = c.args.dir.now in
    let old : Scene = g.H.Known.known c.args.host.now in
    let mid : Scene = g.H.Known.known c.must_be_missing.new.host in
    let new : Scene = g.H.Known.known c.save_image.new.folder in
    λ cause. saving_stopped d e cause dir old.tree old.made new mid.made c.in-Err.fault c.fault_of_extracting.result
    c.must_be_missing.ensures.kept.2 c.fault_of_extracting.ensures c.in_ok-must_be_missing.ensures.missing c.in-Err.ensures.stopped
    c.in-Err.ensures.blamed

pub returns-in-Err-clause-kept : goal.returns-in-Err-clause-kept
returns-in-Err-clause-kept g c =
    let first = c.must_be_missing.ensures.kept.0 in
    let then = c.save_image.ensures.kept in
    (then.0 ∙ first.0, then.1 ∙ first.1, then.2 ∙ first.2)
