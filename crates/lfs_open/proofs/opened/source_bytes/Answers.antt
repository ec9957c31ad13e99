-- The file of an image that another one is made of is not read, or a commit of a later version is refused in it, or memory is wanting.
use Rattle.std.proofs.Common.{inl, refl, inr, ap, Some}
use Rattle.std.proofs.lemmas.Result.{IfOk-from_err, err_from_is_err_and}
use Rattle.lfs_command.specs.declared.refusal.Refusal.TheVariants.{Memory}
use Rattle.lfs_request.specs.declared.fault.Fault.TheVariants.{Refused}
use Rattle.lfs_host.specs.Scene.{Scene}
use Rattle.lfs_open.specs.Repacking.{RefusesSource}
use Rattle.lfs_open.proofs.StopLemmas.{told_as, stopped_as, reads_at, refused_so}
use Rattle.lfs_report.specs.Stop.{stopped_by}
use Rattle.lfs_open.specs.Later.{later_in_source}
use Rattle.lfs_request.specs.View.{start_of}
use Rattle.lfs_open.proofs.opened.source_bytes.Goals as goal

pub returns-in_err-bytes-clause-read : goal.returns-in_err-bytes-clause-read
returns-in_err-bytes-clause-read g c = IfOk-from_err c.from_residual.result _ c.from_residual.ensures.0

pub returns-in_err-pass_source-clause-read : goal.returns-in_err-pass_source-clause-read
returns-in_err-pass_source-clause-read g c = IfOk-from_err c.from_residual-in_err-pass_source.result _ c.from_residual-in_err-pass_source.ensures.0

pub returns-in_err-read_by-clause-read : goal.returns-in_err-read_by-clause-read
returns-in_err-read_by-clause-read g c = IfOk-from_err c.from_residual-in_err-read_by.result _ c.from_residual-in_err-read_by.ensures.0

pub returns-in_err-bytes-clause-refused : goal.returns-in_err-bytes-clause-refused
returns-in_err-bytes-clause-refused g c =
    let old : Scene = g.H.Known.known c.args.host.now in
    let new : Scene = g.H.Known.known c.read_other.new.host in
    let p = err_from_is_err_and c.from_residual.result c.from_residual.ensures.1 in
    told_as c.from_residual.result (RefusesSource c.args.source.now old new) c.in_err-bytes.field-0.0 p.0 p.1 p.2 (inl c.in_err-bytes.ensures.refused)

pub returns-in_err-pass_source-clause-refused : goal.returns-in_err-pass_source-clause-refused
returns-in_err-pass_source-clause-refused g c =
    let source = c.args.source.now in
    let old : Scene = g.H.Known.known c.args.host.now in
    let new : Scene = g.H.Known.known c.read_other.new.host in
    let on = c.from_residual-in_err-pass_source in
    let stop = c.in_err-pass_source.field-0.0 in
    let p = err_from_is_err_and on.result on.ensures.1 in
    let bytes = c.in_ok-bytes.bytes.items in
    let reads = reads_at old.files source.file.now bytes c.start.result (start_of source.manner.view) c.start.ensures c.in_ok-bytes.ensures.bytes in
    let later = refused_so source.manner (later_in_source source.size) c.deref.result.now bytes (stopped_by c.pass_source.result)
    (Some stop.fault) c.deref.ensures.value c.pass_source.ensures (ap stopped_by c.in_err-pass_source.was) in
    stopped_as on.result (λ s. RefusesSource source old new s.fault) stop p.0 p.1 p.2 (inr (inl (bytes, reads, later)))

pub returns-in_err-read_by-clause-refused : goal.returns-in_err-read_by-clause-refused
returns-in_err-read_by-clause-refused g c =
    let old : Scene = g.H.Known.known c.args.host.now in
    let new : Scene = g.H.Known.known c.read_other.new.host in
    let on = c.from_residual-in_err-read_by in
    let p = err_from_is_err_and on.result on.ensures.1 in
    told_as on.result (RefusesSource c.args.source.now old new) (Refused Memory) p.0 p.1 p.2 (inl (inl refl))
