-- Why a pair holds no part (own: the names of the faults).
use Rattle.std.specs.Prelude.{◌≡◌, List, Some, None}
use Rattle.std.specs.List.{Any}
use Rattle.lfs_block.specs.Disk.{Disk}
use Rattle.lfs_block.specs.declared.mount_fault.MountFault.{MountFault}
use Rattle.lfs_block.specs.declared.mount_fault.MountFault.TheVariants.{NoValidCommit, UnknownTag, BadTag, IncompleteEntry, BadName, Memory}
use Rattle.lfs_tag.specs.Commit.{Item}
use Rattle.lfs_meta.specs.Body.{Pair}
use Rattle.lfs_meta.specs.LiveBlock.{tags_of, part_of}
use Rattle.lfs_meta.specs.Entry.{RawEntry}
use Rattle.lfs_meta.specs.Part.{RawPart}
use Rattle.lfs_meta.specs.Replay.{HasUnknown, HasBad}
use Rattle.lfs_meta.specs.Complete.{IsIncomplete, IsMisnamed}

-- why tags don't replay; want of memory has no cause
abbrev pub TagsCause : MountFault → List Item → Type 0
TagsCause UnknownTag tags = HasUnknown tags
TagsCause BadTag tags = HasBad tags
TagsCause Memory tags = Unit {0}
TagsCause _ tags = ⊥

-- why a pair holds no part
abbrev pub DraftCause : MountFault → Disk → Pair → Type 0
DraftCause NoValidCommit d pair = tags_of d pair ≡ None
DraftCause UnknownTag d pair = (tags : List Item) × (tags_of d pair ≡ Some tags) × HasUnknown tags
DraftCause BadTag d pair = (tags : List Item) × (tags_of d pair ≡ Some tags) × HasBad tags
DraftCause Memory d pair = Unit {0}
DraftCause _ d pair = ⊥

-- why a pair holds no part all of whose entries are complete
abbrev pub PairCause : MountFault → Disk → Pair → Type 0
PairCause NoValidCommit d pair = tags_of d pair ≡ None
PairCause UnknownTag d pair = (tags : List Item) × (tags_of d pair ≡ Some tags) × HasUnknown tags
PairCause BadTag d pair = (tags : List Item) × (tags_of d pair ≡ Some tags) × HasBad tags
PairCause IncompleteEntry d pair = (p : RawPart) × (part_of d pair ≡ Some p) × Any IsIncomplete p.entries
PairCause BadName d pair = (p : RawPart) × (part_of d pair ≡ Some p) × Any IsMisnamed p.entries
PairCause _ d pair = ⊥

-- why an entry isn't made complete; want of memory has no cause
abbrev pub RawEntryCause : MountFault → RawEntry → Type 0
RawEntryCause IncompleteEntry e = IsIncomplete e
RawEntryCause BadName e = IsMisnamed e
RawEntryCause Memory e = Unit {0}
RawEntryCause _ e = ⊥

-- why some entry isn't
abbrev pub RawEntriesCause : MountFault → List RawEntry → Type 0
RawEntriesCause IncompleteEntry es = Any IsIncomplete es
RawEntriesCause BadName es = Any IsMisnamed es
RawEntriesCause Memory es = Unit {0}
RawEntriesCause _ es = ⊥

-- why a pair isn't read: it holds no part all of whose entries are complete, or want of memory, which has no cause
abbrev pub ReadCause : MountFault → Disk → Pair → Type 0
ReadCause Memory d pair = Unit {0}
ReadCause fault d pair = PairCause fault d pair
