-- A script isn't read, or its text is taken.
use Rattle.std.proofs.Common.{◌≡◌, subst, sym, inl, inr}
use Rattle.std.proofs.lemmas.Result.{err_from_is_err_and}
use Rattle.lfs_host.specs.Scene.{KeepsScene, Scene}
use Rattle.lfs_serve.specs.Batching.{ReadsScript}
use Rattle.lfs_report.specs.Stop.{stopped_by}
use Rattle.lfs_serve.proofs.BatchingLemmas.{script_ends}
use Rattle.lfs_open.proofs.StopLemmas.{stopped_at}
use Rattle.lfs_serve.proofs.batching.batched.Goals as goal

pub returns-in_err-text-clause-ended : goal.returns-in_err-text-clause-ended
returns-in_err-text-clause-ended g c =
    let fault = c.in_err-text.field-0.0 in
    let p = err_from_is_err_and c.from_residual.result c.from_residual.ensures.1 in
    inr ((c.script_text.ensures.kept.0, c.script_text.ensures.kept.1), (fault, stopped_at c.from_residual.result fault p.0 p.1 p.2, inl (inl c.in_err-text.ensures.refused)))

pub returns-clause-ended : goal.returns-clause-ended
returns-clause-ended g c =
    let old : Scene = g.H.Known.known c.args.host.now in
    let mid : Scene = g.H.Known.known c.script_text.new.host in
    let new : Scene = g.H.Known.known c.text_batched-end.new.host in
    let request = c.args.request.now in
    let text = c.deref.result.now in
    let kept : KeepsScene old mid = (c.script_text.ensures.kept.0, c.script_text.ensures.kept.1) in
    let same : text ≡ c.in_ok-text.text.items = c.deref.ensures.value in
    let reads = subst (ReadsScript c.args.file old) (sym same) c.in_ok-text.ensures.text in
    script_ends c.args.file text c.args.terms c.args.one request.takes_older request.size request.image.now old mid new (stopped_by c.lined.result)
    (stopped_by c.text_batched-end.result) c.lined.ensures reads kept c.text_batched-end.ensures.ended
