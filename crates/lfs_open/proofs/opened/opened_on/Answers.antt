-- An image that is not mounted, or of whose rows no copies are made.
use Rattle.std.proofs.Common.{◌≡◌, ◌⊎◌, inl, refl}
use Rattle.std.proofs.lemmas.Result.{IfOk-from_err, err_from_is_err_and}
use Rattle.lfs_command.specs.declared.refusal.Refusal.TheVariants.{Memory}
use Rattle.lfs_request.specs.declared.fault.Fault.TheVariants.{Refused}
use Rattle.lfs_open.specs.Opened.{RefusesMounting}
use Rattle.lfs_open.proofs.StopLemmas.{stopped_as, told_as}
use Rattle.lfs_open.proofs.OpenedLemmas.{image_fits}
use Rattle.lfs_open.proofs.opened.opened_on.Goals as goal

pub returns-in_err-mounted-clause-opened : goal.returns-in_err-mounted-clause-opened
returns-in_err-mounted-clause-opened c = IfOk-from_err c.from_residual.result _ c.from_residual.ensures.0

pub returns-in_err-mounted-clause-refused : goal.returns-in_err-mounted-clause-refused
returns-in_err-mounted-clause-refused c =
    let p = err_from_is_err_and c.from_residual.result c.from_residual.ensures.1 in
    stopped_as c.from_residual.result _ c.in_err-mounted.field-0.0 p.0 p.1 p.2 c.in_err-mounted.ensures.refused

pub returns-in_err-source_rows-clause-opened : goal.returns-in_err-source_rows-clause-opened
returns-in_err-source_rows-clause-opened c = IfOk-from_err c.from_residual-in_err-source_rows.result _ c.from_residual-in_err-source_rows.ensures.0

pub returns-in_err-source_rows-clause-refused : goal.returns-in_err-source_rows-clause-refused
returns-in_err-source_rows-clause-refused c =
    let on = c.from_residual-in_err-source_rows in
    let p = err_from_is_err_and on.result on.ensures.1 in
    told_as on.result (λ fault. (fault ≡ Refused Memory) ⊎ RefusesMounting c.args.image.now.disk fault) (Refused Memory) p.0 p.1 p.2 (inl refl)

pub overflow_mul-result : goal.overflow_mul-result
overflow_mul-result c = image_fits c.args.image.now.disk c.size.result c.count.result c.size.ensures.disk c.size.ensures.value c.count.ensures
