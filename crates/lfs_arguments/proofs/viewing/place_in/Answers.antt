use Rattle.std.proofs.Common.{refl}
use Rattle.lfs_arguments.proofs.viewing.place_in.Goals as goal

pub returns-in-None-clause-refused : goal.returns-in-None-clause-refused
returns-in-None-clause-refused c = λ rows has. (has, c.in-None.ensures.none refl)
