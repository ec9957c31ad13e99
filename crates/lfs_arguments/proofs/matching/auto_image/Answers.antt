use Rattle.std.proofs.Common.{refl}
use Rattle.lfs_arguments.proofs.matching.auto_image.Goals as goal

pub returns-in-None-clause-none : goal.returns-in-None-clause-none
returns-in-None-clause-none c = λ none file says. c.in-None.ensures.none refl file.name.now says.0
