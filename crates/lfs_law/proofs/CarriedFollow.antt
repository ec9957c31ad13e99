-- An accepted command follows.
use Rattle.std.proofs.Common.{sym, subst}
use Rattle.lfs_fs.specs.Volume.{Volume}
use Rattle.lfs_command.specs.Command.{Command}
use Rattle.lfs_command.specs.Edited.{edited}
use Rattle.lfs_command.specs.Cut.{cut}
use Rattle.lfs_command.specs.Accepted.{Follows}
use Rattle.lfs_command.specs.Planned.{CarriesOut}
use Rattle.lfs_law.specs.Laws.{CutsFollow, CleansFollow}

abbrev pub CarriedFollow : Type 0
CarriedFollow = (c : Command) (v w : Volume) → CarriesOut c v w → Follows v c w

pub carried_follow : CutsFollow → CleansFollow → CarriedFollow
carried_follow cuts cleans c v w does =
    subst (Follows v c) (sym does.is)
    (cleans v (cut does.chosen (edited v c does.supplies)) c (cuts v c does.supplies does.chosen does.accepted does.pairs))
