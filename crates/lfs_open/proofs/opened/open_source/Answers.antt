-- The file of an image that another one is made of is not read.
use Rattle.std.proofs.Common.{inl, inr}
use Rattle.std.proofs.lemmas.Result.{IfErr-weaker, IfOk-from_err, IfOk-weaker, err_from_is_err_and}
use Rattle.lfs_open.specs.Repacking.{RefusesSource}
use Rattle.lfs_open.proofs.StopLemmas.{stopped_as}
use Rattle.lfs_open.proofs.opened.open_source.Goals as goal

pub returns-in_err-bytes-clause-opened : goal.returns-in_err-bytes-clause-opened
returns-in_err-bytes-clause-opened g c = IfOk-from_err c.from_residual.result _ c.from_residual.ensures.0

pub returns-in_err-bytes-clause-refused : goal.returns-in_err-bytes-clause-refused
returns-in_err-bytes-clause-refused g c =
    let p = err_from_is_err_and c.from_residual.result c.from_residual.ensures.1 in
    stopped_as c.from_residual.result _ c.in_err-bytes.field-0.0 p.0 p.1 p.2 c.in_err-bytes.ensures.refused

pub returns-clause-opened : goal.returns-clause-opened
returns-clause-opened g c =
    IfOk-weaker c.opened_as.result _ _ (λ o is. (c.in_ok-bytes.bytes.items, c.in_ok-bytes.ensures.read, is)) c.opened_as.ensures.opened

pub returns-clause-refused : goal.returns-clause-refused
returns-clause-refused g c =
    let source = c.args.source.now in
    let new = g.H.Known.known c.source_bytes.new.host in
    IfErr-weaker c.opened_as.result _ (λ stop. RefusesSource source (g.H.Known.known c.args.host.now) new stop.fault)
    (λ stop why. elim why [
      | inl memory ↦ inl (inl memory)
      | inr judges ↦ inr (inr (c.in_ok-bytes.bytes.items, c.in_ok-bytes.ensures.read, judges))
    ]) c.opened_as.ensures.refused
