-- The causes for which an image does not mount (own).
use Rattle.std.specs.Prelude.{◌⊎◌}
use Rattle.lfs_block.specs.Disk.{Disk}
use Rattle.lfs_block.specs.declared.mount_fault.MountFault.{MountFault}
use Rattle.lfs_block.specs.declared.mount_fault.MountFault.TheVariants.{NoValidCommit, UnknownTag, BadTag, IncompleteEntry, BadName}
use Rattle.lfs_block.specs.declared.mount_fault.MountFault.TheVariants.{BadSkipList, NoSuperblock as No_superblock, Version, Geometry}
use Rattle.lfs_block.specs.declared.mount_fault.MountFault.TheVariants.{Limits, OrderFault, BlockRange, BlockTwice, MissingDirectory}
use Rattle.lfs_block.specs.declared.mount_fault.MountFault.TheVariants.{Orphan, UnfinishedMove, SuperblockElsewhere as Superblock_elsewhere}
use Rattle.lfs_block.specs.declared.mount_fault.MountFault.TheVariants.{BadSize, UnknownState, Memory}
use Rattle.lfs_fs.specs.State.{IsUnfinishedMove, SaysOrphans, IsUnknownState}
use Rattle.lfs_fs.specs.Reading.{reading_of}
use Rattle.lfs_fs.specs.FrontCause.{Unread, NoChain, FrontOrder, TailRange, EntryRange, FrontTwice, SuperblockElsewhere, EntryOversized}
use Rattle.lfs_fs.specs.SuperblockCause.{NoSuperblock, WrongVersion, WrongGeometry, WrongLimits}
use Rattle.lfs_fs.specs.ThreadCause.{ThreadMissing, ThreadOrphan, HasState}

-- what each fault says of the image; want of memory says nothing
abbrev pub HasCause : Disk → MountFault → Type 0
HasCause d NoValidCommit = Unread d NoValidCommit
HasCause d UnknownTag = Unread d UnknownTag
HasCause d BadTag = Unread d BadTag
HasCause d IncompleteEntry = Unread d IncompleteEntry
HasCause d BadName = Unread d BadName
HasCause d BadSkipList = NoChain (reading_of d)
HasCause d No_superblock = NoSuperblock (reading_of d)
HasCause d Version = WrongVersion (reading_of d)
HasCause d Geometry = WrongGeometry (reading_of d)
HasCause d Limits = WrongLimits (reading_of d)
HasCause d OrderFault = FrontOrder (reading_of d)
HasCause d BlockRange = TailRange (reading_of d) ⊎ EntryRange (reading_of d)
HasCause d BlockTwice = FrontTwice (reading_of d)
HasCause d MissingDirectory = ThreadMissing (reading_of d)
HasCause d Orphan = ThreadOrphan (reading_of d) ⊎ HasState (reading_of d) SaysOrphans
HasCause d UnfinishedMove = HasState (reading_of d) IsUnfinishedMove
HasCause d Superblock_elsewhere = SuperblockElsewhere (reading_of d)
HasCause d BadSize = EntryOversized (reading_of d)
HasCause d UnknownState = HasState (reading_of d) IsUnknownState
HasCause d Memory = Unit {0}

-- the faults that say something of the format: all but want of memory
abbrev pub IsOfFormat : MountFault → Type 0
IsOfFormat Memory = ⊥
IsOfFormat _ = Unit {0}

-- none of these holds
abbrev pub HasNoCause : Disk → Type 0
HasNoCause d = (fault : MountFault) → IsOfFormat fault → HasCause d fault → ⊥
