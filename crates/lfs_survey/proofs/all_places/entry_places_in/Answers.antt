use Rattle.std.proofs.lemmas.Result.{err_from_is_err_and}
use Rattle.lfs_survey.proofs.all_places.entry_places_in.Goals as goal

pub returns-in_err-add_entry_places : goal.returns-in_err-add_entry_places
returns-in_err-add_entry_places c = rw (err_from_is_err_and c.from_residual.result c.from_residual.ensures.1).1 tt
