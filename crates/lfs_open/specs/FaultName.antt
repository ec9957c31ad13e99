-- The names of faults, as they are printed (own).
use Rattle.std.specs.Prelude.{ℕ, List, codes}
use Rattle.lfs_block.specs.declared.image_fault.ImageFault.{ImageFault}
use Rattle.lfs_block.specs.declared.image_fault.ImageFault.TheVariants.{ImageLength, BadGeometry}
use Rattle.lfs_block.specs.declared.mount_fault.MountFault.{MountFault}
use Rattle.lfs_block.specs.declared.mount_fault.MountFault.TheVariants.{NoValidCommit, UnknownTag, BadTag, IncompleteEntry, BadName}
use Rattle.lfs_block.specs.declared.mount_fault.MountFault.TheVariants.{BadSkipList, NoSuperblock, Version, Geometry, Limits, OrderFault}
use Rattle.lfs_block.specs.declared.mount_fault.MountFault.TheVariants.{BlockRange, BlockTwice, MissingDirectory, Orphan, UnfinishedMove}
use Rattle.lfs_block.specs.declared.mount_fault.MountFault.TheVariants.{SuperblockElsewhere, BadSize, UnknownState, Memory}

abbrev pub image_fault_name : ImageFault → List ℕ
image_fault_name ImageLength = codes "ImageLength"
image_fault_name BadGeometry = codes "BadGeometry"

abbrev pub mount_fault_name : MountFault → List ℕ
mount_fault_name NoValidCommit = codes "NoValidCommit"
mount_fault_name UnknownTag = codes "UnknownTag"
mount_fault_name BadTag = codes "BadTag"
mount_fault_name IncompleteEntry = codes "IncompleteEntry"
mount_fault_name BadName = codes "BadName"
mount_fault_name BadSkipList = codes "BadSkipList"
mount_fault_name NoSuperblock = codes "NoSuperblock"
mount_fault_name Version = codes "Version"
mount_fault_name Geometry = codes "Geometry"
mount_fault_name Limits = codes "Limits"
mount_fault_name OrderFault = codes "OrderFault"
mount_fault_name BlockRange = codes "BlockRange"
mount_fault_name BlockTwice = codes "BlockTwice"
mount_fault_name MissingDirectory = codes "MissingDirectory"
mount_fault_name Orphan = codes "Orphan"
mount_fault_name UnfinishedMove = codes "UnfinishedMove"
mount_fault_name SuperblockElsewhere = codes "SuperblockElsewhere"
mount_fault_name BadSize = codes "BadSize"
mount_fault_name UnknownState = codes "UnknownState"
mount_fault_name Memory = codes "Memory"
