use Rattle.std.proofs.lemmas.Result.{err_from_is_err_and}
use Rattle.lfs_survey.proofs.chain_place.first_without_chain.Goals as goal

pub returns-in_err-known : goal.returns-in_err-known
returns-in_err-known g c = rw (err_from_is_err_and c.from_residual.result c.from_residual.ensures.1).1 tt

pub returns-in_err-places : goal.returns-in_err-places
returns-in_err-places g c = rw (err_from_is_err_and c.from_residual-in_err-places.result c.from_residual-in_err-places.ensures.1).1 tt
