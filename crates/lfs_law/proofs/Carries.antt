-- A command that follows its equation, and takes and frees the blocks that it says.
use Rattle.std.proofs.Common.{◌≡◌, ℕ, ◌+◌}
use Rattle.lfs_fs.specs.Volume.{Volume}
use Rattle.lfs_fs.specs.Uses.{uses}
use Rattle.lfs_command.specs.Command.{Command}
use Rattle.lfs_command.specs.Supplies.{Supplies, supply_uses}
use Rattle.lfs_command.specs.Edited.{edited}
use Rattle.lfs_command.specs.Accepted.{Follows}
use Rattle.lfs_command.specs.Freed.{freed_uses}

pub record Carries (v : Volume) (c : Command) (s : Supplies) : Type 0 where
  pub follows : Follows v c (edited v c s)
  pub uses : (b : ℕ) → uses b (edited v c s) + freed_uses v c b ≡ uses b v + supply_uses v c s b
