-- An image that does not mount has a cause, and nothing is made.
use Rattle.std.proofs.lemmas.Result.{err_from_is_err_and}
use Rattle.lfs_open.proofs.ExtractingLemmas.{unmounted_ends}
use Rattle.lfs_open.proofs.extracting.extract_image.Goals as goal

pub returns-in_err-mounted-clause-made : goal.returns-in_err-mounted-clause-made
returns-in_err-mounted-clause-made g c =
    let p = err_from_is_err_and c.from_residual.result c.from_residual.ensures.1 in
    unmounted_ends c.args.image.now.disk c.args.path.now c.args.dir.now (g.H.Known.known c.args.host.now).tree (g.H.Known.known c.args.host.now) c.in_err-mounted.field-0.0
    c.from_residual.result p.0 p.1 p.2 c.in_err-mounted.ensures.refused
