-- What an accepted command leaves, cut, can be written (own).
use Rattle.std.specs.Prelude.{◌≡◌, ℕ, ◌<◌, ◌^◌, Bool, true, List, Contains, length}
use Rattle.std.specs.List.{AllByRecursion}
use Rattle.lfs_block.specs.Change.{Change, IsRising}
use Rattle.lfs_block.specs.Disk.{Disk, IsDisk}
use Rattle.lfs_block.specs.PatchLaws.{IsDiskOf}
use Rattle.lfs_meta.specs.Body.{Pair}
use Rattle.lfs_fs.specs.Directory.{Part}
use Rattle.lfs_fs.specs.Outlined.{outlined}
use Rattle.lfs_fs.specs.Reading.{reading_of}
use Rattle.lfs_fs.specs.Sound.{IsSound}
use Rattle.lfs_fs.specs.Stored.{HoldsLinks, SaysVolume}
use Rattle.lfs_fs.specs.Superblock.{IsLimits}
use Rattle.lfs_fs.specs.Thread.{Link, links}
use Rattle.lfs_fs.specs.Used.{Marks}
use Rattle.lfs_fs.specs.Uses.{uses}
use Rattle.lfs_fs.specs.Volume.{Volume}
use Rattle.lfs_command.specs.Accepted.{IsAccepted, AreChosen}
use Rattle.lfs_command.specs.Command.{Command}
use Rattle.lfs_command.specs.Cut.{cut}
use Rattle.lfs_command.specs.Growth.{count_after}
use Rattle.lfs_command.specs.Edited.{edited}
use Rattle.lfs_law.specs.PairWritten.{CanBeAdded}
use Rattle.lfs_command.specs.Need.{is_new_to}
use Rattle.lfs_law.specs.PlansHold.{content_blocks, is_unmarked}
use Rattle.lfs_law.specs.SuperblockBytes.{volume_bytes}
use Rattle.lfs_command.specs.Supplies.{Supplies}
use Rattle.lfs_law.specs.WrittenLinks.{changed_blocks, CanBeMade, CanBeWritten}

-- the links of the outline of what a command leaves, cut
abbrev pub cut_links : Volume → Command → Supplies → (Part → List Pair) → List Link
cut_links v c s chosen = links (outlined (cut chosen (edited v c s))).directories

-- the law: those that are set may be written, with a superblock of as many bytes as it has
abbrev pub CutLinksCanBeWritten : Type 0
CutLinksCanBeWritten = (d : Disk) (v : Volume) (c : Command) (s : Supplies) (chosen : Part → List Pair) (new : List ℕ)
    → IsDiskOf v.size (count_after c v.count) d → length new ≡ 24 → IsAccepted v c s → AreChosen v c s chosen
    → (l : Link) → Contains (cut_links v c s chosen) l → l.part.dirty ≡ true
    → CanBeWritten d new (cut chosen (edited v c s)).attributes l

-- the law: a part in a new pair has no share of the global state
abbrev pub NewPairsAreFresh : Type 0
NewPairsAreFresh = (v : Volume) (c : Command) (s : Supplies) (chosen : Part → List Pair) → IsAccepted v c s → AreChosen v c s chosen
    → (l : Link) → Contains (cut_links v c s chosen) l → is_new_to v l.part.pair ≡ true → l.part.delta ≡ 0

-- the law: so all of them can be written behind the changes of new contents, where a table of the blocks that the volume uses is at hand
abbrev pub CutLinksCanBeAdded : Type 0
CutLinksCanBeAdded = (d : Disk) (v : Volume) (c : Command) (s : Supplies) (chosen : Part → List Pair) (new : List ℕ)
    (used : List Bool) (base : List Change)
    → IsDiskOf v.size (count_after c v.count) d → length new ≡ 24 → IsAccepted v c s → AreChosen v c s chosen
    → Marks used (λ b. uses b v)
    → IsRising base → AllByRecursion (CanBeMade d) base → changed_blocks base ≡ content_blocks v c s
    → CanBeAdded d new (cut chosen (edited v c s)).attributes (is_unmarked used) base (cut_links v c s chosen)

-- the law: the superblock of an image that holds a volume is the one that is made of the volume's size, count and limits
abbrev pub HeldBytesAreMade : Type 0
HeldBytesAreMade = (d : Disk) (v : Volume) (held : HoldsLinks (reading_of d) v) → IsDisk d → IsSound v → held.bytes ≡ volume_bytes v

-- the law: it says the volume
abbrev pub MadeBytesSay : Type 0
MadeBytesSay = (v : Volume) → v.size < 2 ^ 32 → v.count < 2 ^ 32 → IsLimits v.limits → SaysVolume v (volume_bytes v)
