-- What an accepted command changes at least (own).
use Rattle.std.specs.Prelude.{◌≤◌, length}
use Rattle.lfs_fs.specs.Volume.{Volume}
use Rattle.lfs_command.specs.Command.{Command}
use Rattle.lfs_command.specs.Supplies.{Supplies}
use Rattle.lfs_command.specs.Edited.{edited}
use Rattle.lfs_command.specs.Accepted.{IsAccepted}
use Rattle.lfs_command.specs.Need.{changed_parts}

-- the law: an accepted command sets a part whose pair the volume has
abbrev pub CommandsSetAPart : Type 0
CommandsSetAPart = (v : Volume) (c : Command) (s : Supplies) → IsAccepted v c s → 1 ≤ length (changed_parts v (edited v c s))
