-- Changes of an image that lay a file's contents in new blocks (own).
use Rattle.std.specs.Prelude.{ℕ, ◌≡◌, List}
use Rattle.std.specs.List.{AllByRecursion}
use Rattle.lfs_block.specs.Change.{Change, IsRising}
use Rattle.lfs_block.specs.Disk.{Disk}
use Rattle.lfs_fs.specs.Volume.{Volume}
use Rattle.lfs_command.specs.Command.{Command}
use Rattle.lfs_law.specs.PlansHold.{content_blocks}
use Rattle.lfs_law.specs.PlansWritten.{LaysContents, LaysNew}
use Rattle.lfs_command.specs.Supplies.{Supplies}
use Rattle.lfs_law.specs.WrittenLinks.{CanBeMade, changed_blocks}

-- changes that can be made lay these bytes in these blocks
pub record AreLaid (d : Disk) (bytes blocks : List ℕ) (base : List Change) : Type 0 where
  pub rising : IsRising base
  pub made : AllByRecursion (CanBeMade d) base
  pub numbers : changed_blocks base ≡ blocks
  pub lays : LaysContents d bytes blocks base

-- they lay what a command puts into the blocks of some supplies, where it puts something there
pub record AreLaidFor (d : Disk) (v : Volume) (c : Command) (s : Supplies) (base : List Change) : Type 0 where
  pub rising : IsRising base
  pub made : AllByRecursion (CanBeMade d) base
  pub contents : changed_blocks base ≡ content_blocks v c s
  pub lays : LaysNew d v c s base
