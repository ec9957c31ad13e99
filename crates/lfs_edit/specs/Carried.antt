-- How a command is carried out on the outline of an image (own).
use Rattle.std.specs.Prelude.{ℕ, ◌≡◌, Bool, List, Option, None, All, drop, take}
use Rattle.lfs_block.specs.Change.{Change}
use Rattle.lfs_block.specs.Disk.{Disk}
use Rattle.lfs_block.specs.Geometry.{IsGeometry}
use Rattle.lfs_block.specs.Patch.{ChangeSet, IsPatch, AgreesOld, applied}
use Rattle.lfs_meta.specs.Body.{Pair}
use Rattle.lfs_fs.specs.Directory.{Part, thread}
use Rattle.lfs_fs.specs.Mounted.{IsOutlineOf}
use Rattle.lfs_fs.specs.Thread.{links}
use Rattle.lfs_fs.specs.Volume.{Volume}
use Rattle.lfs_fs.specs.Free.{free_blocks}
use Rattle.lfs_fs.specs.Outlined.{outlined}
use Rattle.lfs_fs.specs.Sound.{IsSound}
use Rattle.lfs_fs.specs.Superblock.{IsLimits}
use Rattle.lfs_fs.specs.Unused.{unused}
use Rattle.lfs_fs.specs.Used.{Marks}
use Rattle.lfs_fs.specs.Uses.{times, uses}
use Rattle.lfs_fs.specs.Reading.{reading_of}
use Rattle.lfs_fs.specs.Holds.{Holds}
use Rattle.lfs_command.specs.declared.refusal.Refusal.{Refusal}
use Rattle.lfs_command.specs.Clean.{IsClean}
use Rattle.lfs_command.specs.Command.{Command, Asked, Spells, HasNames}
use Rattle.lfs_command.specs.Freed.{freed_uses}
use Rattle.lfs_command.specs.Growth.{grown}
use Rattle.lfs_command.specs.Supplies.{Supplies}
use Rattle.lfs_law.specs.EditedOutline.{edited_outline}
use Rattle.lfs_command.specs.Cut.{cut, HasEnough, new_pair_uses}
use Rattle.lfs_command.specs.Need.{need}
use Rattle.lfs_command.specs.Ordered.{blocks_chosen, leader, overflowing_led}
use Rattle.lfs_command.specs.Verdict.{checks, first_refusal, verdict}
use Rattle.lfs_draft.specs.LeastSupplies.{least_supplies, made_blocks}
use Rattle.lfs_command.specs.PairChanged.{forced_by}
use Rattle.lfs_command.specs.Planned.{CarriesOut, Plans, RefusesPlan}
use Rattle.lfs_law.specs.NeedsSmall.{HasFewEntries}
use Rattle.lfs_law.specs.PlansHold.{content_blocks, is_unmarked}
use Rattle.lfs_law.specs.PlansWritten.{LaysNew}
use Rattle.lfs_law.specs.SuperblockBytes.{volume_bytes}
use Rattle.lfs_law.specs.WrittenLinks.{AreWritten, ChangesLinks, changed_blocks}

-- A volume as images hold it: sound, without marks, within the format's limits, of a size and a count that images have, whose parts have few
-- entries.
pub record IsHoldable (v : Volume) : Type 0 where
  pub sound : IsSound v
  pub clean : IsClean v
  pub limits : IsLimits v.limits
  pub fits : IsGeometry v.size v.count
  pub few : HasFewEntries v

-- an outline of such a volume
pub record IsOutlined (v o : Volume) : Type 0 where
  pub holdable : IsHoldable v
  pub outline : o ≡ outlined v

-- the same where no check refuses a command, those on room aside
pub record IsJudged (v : Volume) (c : Command) (o : Volume) : Type 0 where
  pub is : IsOutlined v o
  pub names : HasNames c
  pub unrefused : first_refusal (checks o c) ≡ None

-- An outline is what a command leaves of that of a volume, where it takes the least free blocks. No check refuses the command, those on room
-- aside, and a table marks the blocks that the volume uses.
pub record IsUnweighed (v : Volume) (c : Command) (used : List Bool) (o : Volume) : Type 0 where
  pub holdable : IsHoldable v
  pub names : HasNames c
  pub unrefused : first_refusal (checks v c) ≡ None
  pub marks : Marks used (λ b. uses b v)
  pub free : unused used ≡ free_blocks (grown c v)
  pub outline : o ≡ edited_outline (outlined v) c (least_supplies v c (free_blocks (grown c v)))

-- The same where no check refuses the command, and as many of the least free blocks are at hand as it needs.
pub record IsReady (v : Volume) (c : Command) (used : List Bool) (blocks : List ℕ) (o : Volume) : Type 0 where
  pub holdable : IsHoldable v
  pub names : HasNames c
  pub unrefused : verdict v c ≡ None
  pub marks : Marks used (λ b. uses b v)
  pub outline : o ≡ edited_outline (outlined v) c (least_supplies v c (free_blocks (grown c v)))
  pub least : blocks ≡ take (need v c) (free_blocks (grown c v))

-- ---- what is made of it

-- the supplies of a command that is ready
abbrev pub supplies_of : Volume → Command → Supplies
supplies_of v c = least_supplies v c (free_blocks (grown c v))

-- an outline that is ready, how many of the blocks are for what the command makes, and the pair that leads
pub record IsLed (v : Volume) (c : Command) (used : List Bool) (blocks : List ℕ) (many : ℕ) (o : Volume) (leading : Option Pair) : Type 0 where
  pub ready : IsReady v c used blocks o
  pub made : many ≡ made_blocks v c
  pub leads : leading ≡ leader v c (supplies_of v c)

-- Pairs are chosen for the parts of an outline that take more than a block: as many as each needs, of these blocks two by two in order,
-- for the part of the leading pair first.
pub record AreChosenOf (leading : Option Pair) (o : Volume) (chosen : Part → List Pair) (blocks : List ℕ) : Type 0 where
  pub enough : All (HasEnough chosen o) (thread o.directories)
  pub ordered : blocks_chosen chosen (overflowing_led leading o) ≡ blocks
  pub uses : (b : ℕ) → new_pair_uses chosen o b ≡ times b blocks

-- An outline is cut, with pairs of these blocks.
pub record IsCutOver (leading : Option Pair) (old : Volume) (blocks : List ℕ) (new : Volume) : Type 0 where
  pub chosen : Part → List Pair
  pub are : AreChosenOf leading old chosen blocks
  pub is : new ≡ cut chosen old

-- An outline that is ready is cut.
pub record IsCutReady (v : Volume) (c : Command) (used : List Bool) (blocks : List ℕ) (o : Volume) : Type 0 where
  pub before : Volume
  pub ready : IsReady v c used blocks before
  pub cuts : IsCutOver (leader v c (supplies_of v c)) before (drop (made_blocks v c) blocks) o

-- A command is carried out on a volume, of which an outline is that of what it leaves: it takes these blocks, the least free ones in order, and
-- gives others back.
pub record IsCarriedOnOutline (v : Volume) (c : Command) (blocks back : List ℕ) (o : Volume) : Type 0 where
  pub after : Volume
  pub carried : CarriesOut c v after
  pub supplies : carried.supplies ≡ supplies_of v c
  pub leaves : o ≡ outlined after
  pub taken : blocks ≡ take (need v c) (free_blocks (grown c v))
  pub gone : (b : ℕ) → times b back ≡ freed_uses v c b

-- ---- what is written of it

-- an outline of the volume that an image holds, on which no check refuses a command, those on room aside
pub record IsHeldJudged (d : Disk) (c : Command) (o : Volume) : Type 0 where
  pub outline : IsOutlineOf d o
  pub names : HasNames c
  pub unrefused : first_refusal (checks o c) ≡ None

-- an outline that is ready is cut, of the volume that an image holds
pub record IsHeldCut (d : Disk) (c : Command) (used : List Bool) (blocks : List ℕ) (o : Volume) : Type 0 where
  pub volume : Volume
  pub holds : Holds (reading_of d) volume
  pub cut : IsCutReady volume c used blocks o

-- A patch, which keeps the count, writes an outline over the volume of an image that is lengthened already: blocks of a file's new
-- contents, and the links that are set.
pub record WritesOver (d : Disk) (v : Volume) (c : Command) (used : List Bool) (o : Volume) (p : ChangeSet) : Type 0 where
  pub patch : IsPatch p
  pub stands : AgreesOld p d
  pub keeps : p.after ≡ p.before
  pub base : List Change
  pub contents : changed_blocks base ≡ content_blocks v c (supplies_of v c)
  pub lays : LaysNew d v c (supplies_of v c) base
  pub written : AreWritten d (volume_bytes o) o.attributes (is_unmarked used) base (links o.directories) p.changes
  pub changed : ChangesLinks d (is_unmarked used) (forced_by c) (links o.directories) p.changes

-- a command is refused on the volume that an image holds, however it is spelled
abbrev pub IsRefusedBy : Disk → Command → Refusal → Type 0
IsRefusedBy d c r = (asked : Asked) → Spells asked c → RefusesPlan d asked r

-- A patch carries a command out, however it is spelled, and an outline is that of the patched image.
pub record IsFinished (d : Disk) (c : Command) (p : ChangeSet) (o : Volume) : Type 0 where
  pub plans : (asked : Asked) → Spells asked c → Plans d asked p
  pub outline : IsOutlineOf (applied p d) o
