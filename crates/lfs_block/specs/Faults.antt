-- The numbers of faults (own).
use Rattle.std.specs.Prelude.{ℕ}
use Rattle.lfs_block.specs.declared.image_fault.ImageFault.{ImageFault}
use Rattle.lfs_block.specs.declared.image_fault.ImageFault.TheVariants.{ImageLength, BadGeometry}
use Rattle.lfs_block.specs.declared.mount_fault.MountFault.{MountFault}
use Rattle.lfs_block.specs.declared.mount_fault.MountFault.TheVariants.{NoValidCommit, UnknownTag, BadTag, IncompleteEntry, BadName}
use Rattle.lfs_block.specs.declared.mount_fault.MountFault.TheVariants.{BadSkipList, NoSuperblock, Version, Geometry, Limits, OrderFault}
use Rattle.lfs_block.specs.declared.mount_fault.MountFault.TheVariants.{BlockRange, BlockTwice, MissingDirectory, Orphan, UnfinishedMove}
use Rattle.lfs_block.specs.declared.mount_fault.MountFault.TheVariants.{SuperblockElsewhere, BadSize, UnknownState, Memory}

abbrev pub image_fault_number : ImageFault → ℕ
image_fault_number ImageLength = 1
image_fault_number BadGeometry = 2

abbrev pub mount_fault_number : MountFault → ℕ
mount_fault_number NoValidCommit = 3
mount_fault_number UnknownTag = 4
mount_fault_number BadTag = 5
mount_fault_number IncompleteEntry = 6
mount_fault_number BadName = 7
mount_fault_number BadSkipList = 8
mount_fault_number NoSuperblock = 9
mount_fault_number Version = 10
mount_fault_number Geometry = 11
mount_fault_number Limits = 12
mount_fault_number OrderFault = 13
mount_fault_number BlockRange = 14
mount_fault_number BlockTwice = 15
mount_fault_number MissingDirectory = 16
mount_fault_number Orphan = 17
mount_fault_number UnfinishedMove = 18
mount_fault_number SuperblockElsewhere = 19
mount_fault_number BadSize = 20
mount_fault_number UnknownState = 21
mount_fault_number Memory = 44
