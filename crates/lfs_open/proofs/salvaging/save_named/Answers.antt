-- What can be read is saved, or something ends that.
use Rattle.std.proofs.lemmas.Result.{err_from_is_err_and}
use Rattle.lfs_block.specs.Disk.{Disk}
use Rattle.lfs_host.specs.Scene.{Scene}
use Rattle.lfs_report.specs.Stop.{stopped_by}
use Rattle.lfs_open.proofs.SavingLemmas.{named_saved, named_stopped}
use Rattle.lfs_open.proofs.StopLemmas.{stopped_at}
use Rattle.lfs_open.proofs.salvaging.save_named.Goals as goal

pub returns-in_err-saved-clause-made : goal.returns-in_err-saved-clause-made
returns-in_err-saved-clause-made g c =
    let d : Disk = c.args.reading.now.disk.disk in
    let e : Disk = c.args.reading.now.parts.disk in
    let old : Scene = g.H.Known.known c.args.host.now in
    let new : Scene = g.H.Known.known c.save_new.new.host in
    let on = c.from_residual in
    let fault = c.in_err-saved.field-0.0 in
    let p = err_from_is_err_and on.result on.ensures.1 in
    named_stopped d e c.args.dir.now old.tree old.made new (stopped_by on.result) fault (stopped_at on.result fault p.0 p.1 p.2)
    c.in_err-saved.ensures.stopped

pub returns-clause-made : goal.returns-clause-made
returns-clause-made g c =
    let d : Disk = c.args.reading.now.disk.disk in
    let e : Disk = c.args.reading.now.parts.disk in
    let old : Scene = g.H.Known.known c.args.host.now in
    let new : Scene = g.H.Known.known c.save_new.new.host in
    let saved = c.in_ok-saved.ensures.saved in
    named_saved d e c.args.dir.now old.tree old.made new c.in_ok-saved.saved (stopped_by c.ended_named.result) saved.0 saved.1
    c.ended_named.ensures
