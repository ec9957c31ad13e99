-- Which blocks have no user (own).
use Rattle.std.specs.Prelude.{◌≡◌, ◌↔◌, ℕ, None, length}
use Rattle.lfs_block.specs.Disk.{Disk}
use Rattle.lfs_fs.specs.Mounted.{MountedValue, IsMountOf}
use Rattle.lfs_fs.specs.Uses.{uses}
use Rattle.lfs_listing.specs.BlockMap.{user}
use Rattle.lfs_listing.specs.BlockSums.{untaken}

-- the law: a block of a mounted image has no user just where nothing uses it
abbrev pub UsersAreUses : Type 0
UsersAreUses = (d : Disk) (m : MountedValue) (is : IsMountOf d m) (b : ℕ) → (user m.outline m.rows b ≡ None) ↔ (uses b is.volume ≡ 0)

-- the law: there are as many of these as blocks that are free
abbrev pub UntakenAreFree : Type 0
UntakenAreFree = (d : Disk) (m : MountedValue) → IsMountOf d m → untaken m.outline m.rows ≡ length m.free
