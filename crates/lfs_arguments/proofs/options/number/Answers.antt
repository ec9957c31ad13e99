use Rattle.std.proofs.Common.{refl}
use Rattle.lfs_arguments.proofs.options.number.Goals as goal

pub returns-in-None-clause-none : goal.returns-in-None-clause-none
returns-in-None-clause-none c = (refl, λ rule is number said. c.in-None.ensures.none refl rule is number said)
