use Rattle.std.proofs.Common.{refl}
use Rattle.std.proofs.lemmas.Result.{err_from_is_err_and}
use Rattle.lfs_fs.proofs.UsedLemmas.{taken_more}
use Rattle.lfs_fs.proofs.used.mark_all.Goals as goal

pub returns-in_err-mark-clause-refused : goal.returns-in_err-mark-clause-refused
returns-in_err-mark-clause-refused c =
    let p = err_from_is_err_and c.from_residual.result c.from_residual.ensures.1 in
    rw (p.1, p.2) (taken_more c.in_err-mark.field-0.0 c.args.used.now c.each.used c.args.blocks.now c.each.block-index _ c.each-test.true
    refl c.each.invariant c.in_err-mark.ensures.refused)
