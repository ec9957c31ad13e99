-- An image that mounts has an outline.
use Rattle.std.proofs.Common.{refl}
use Rattle.lfs_block.specs.Disk.{Disk}
use Rattle.lfs_fs.specs.Outlined.{outlined}
use Rattle.lfs_fs.specs.Outlining.{HasOutline}
use Rattle.lfs_history.specs.History.{IsMounted}

pub mounted_has_outline : (d : Disk) → IsMounted d → HasOutline d
mounted_has_outline d (v, holds, sound) = (outlined v, record { volume = v; holds = holds; sound = sound; outline = refl })
