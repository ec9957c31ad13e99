-- What is kept passes the test.
use Rattle.std.proofs.Common.{◌==◌, not, rules}
use Rattle.std.proofs.lemmas.Fn.{filter_same}
use Rattle.lfs_meta.proofs.attributes.remove.Goals as goal

pub returns : goal.returns
returns g c = filter_same _ (λ a. not (c.args.kind == g.A.HasKind.kind_of a)) _ (λ x b f' r. search rules) _ _ c.retain.ensures.filtered
