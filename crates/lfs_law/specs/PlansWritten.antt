-- What is to be shown of the bytes that are written for a command (own).
use Rattle.std.specs.Prelude.{◌≡◌, ◌≢◌, ℕ, nat_le, Bool, false, List, length, map, AllPairs}
use Rattle.lfs_block.specs.Change.{Change}
use Rattle.lfs_block.specs.Disk.{Disk, IsDisk}
use Rattle.lfs_block.specs.Patch.{ChangeSet, IsPatch, AgreesOld, applied}
use Rattle.lfs_block.specs.PatchLaws.{IsDiskOf}
use Rattle.lfs_file.specs.Capacity.{least_blocks}
use Rattle.lfs_file.specs.Laying.{laid}
use Rattle.lfs_meta.specs.Body.{Pair}
use Rattle.lfs_fs.specs.Directory.{Part}
use Rattle.lfs_fs.specs.Outlined.{outlined}
use Rattle.lfs_fs.specs.Volume.{Volume}
use Rattle.lfs_fs.specs.Thread.{links}
use Rattle.lfs_fs.specs.Reading.{Reading, reading_of}
use Rattle.lfs_command.specs.Command.{Command, Mkdir, Put, Rm, Mv, SetAttr, RmAttr, Grow}
use Rattle.lfs_command.specs.Growth.{count_after, grown}
use Rattle.lfs_command.specs.Supplies.{Supplies, AreFree, inline_limit, new_body}
use Rattle.lfs_command.specs.Edited.{edited}
use Rattle.lfs_command.specs.Cut.{cut}
use Rattle.lfs_command.specs.Accepted.{IsAccepted, AreChosen}
use Rattle.lfs_command.specs.Planned.{HasLaid}
use Rattle.lfs_law.specs.WrittenLinks.{changed_blocks, block_after, AreWritten}
use Rattle.lfs_law.specs.Lengthened.{HoldsParts}
use Rattle.lfs_law.specs.OutlineLaws.{IsThere, WritesOutline}
use Rattle.lfs_law.specs.PlansHold.{content_blocks}
use Rattle.lfs_law.specs.SuperblockBytes.{volume_bytes}

-- a file's new contents are there
abbrev pub NewIsThere : Reading → Volume → Command → Supplies → Type 0
NewIsThere r v (Mkdir p) s = Unit {0}
NewIsThere r v (Put p bytes most) s = IsThere r (new_body v s bytes most)
NewIsThere r v (Rm p) s = Unit {0}
NewIsThere r v (Mv p q) s = Unit {0}
NewIsThere r v (SetAttr p k value) s = Unit {0}
NewIsThere r v (RmAttr p k) s = Unit {0}
NewIsThere r v (Grow n) s = Unit {0}

-- A patch, which keeps the count, writes for a command: blocks of new contents, which are there, and the links of the outline of what
-- the command leaves, cut, with a superblock of these bytes.
pub record WritesCommand (d : Disk) (v : Volume) (c : Command) (s : Supplies)
    (chosen : Part → List Pair) (new : List ℕ) (is_new : Pair → Bool) (base : List Change) (p : ChangeSet) : Type 0 where
  pub disk : IsDisk d
  pub patch : IsPatch p
  pub stands : AgreesOld p d
  pub keeps : p.after ≡ p.before
  pub contents : changed_blocks base ≡ content_blocks v c s
  pub written : AreWritten d new (cut chosen (edited v c s)).attributes is_new base
      (links (outlined (cut chosen (edited v c s))).directories) p.changes
  pub there : NewIsThere (reading_of (applied p d)) v c s

-- the law: for an accepted command nothing else is to be shown, where each superblock is the one that is made of its volume
abbrev pub CommandsAreWritten : Type 0
CommandsAreWritten = (d : Disk) (v : Volume) (c : Command) (s : Supplies)
    (chosen : Part → List Pair) (is_new : Pair → Bool) (base : List Change) (p : ChangeSet)
    → HoldsParts (reading_of d) (grown c v) (volume_bytes v) → IsAccepted v c s → AreChosen v c s chosen
    → WritesCommand d v c s chosen (volume_bytes (cut chosen (edited v c s))) is_new base p
    → WritesOutline d (grown c v) (cut chosen (edited v c s)) (volume_bytes v) (volume_bytes (cut chosen (edited v c s))) is_new base p

-- the changes of contents lay a file's bytes in blocks
pub record LaysContents (d : Disk) (bytes blocks : List ℕ) (base : List Change) : Type 0 where
  pub count : length blocks ≡ least_blocks d.size (length bytes)
  pub apart : AllPairs ◌≢◌ blocks
  pub same : map (block_after d base) blocks ≡ laid d.size bytes blocks

-- the same of a command that puts a file's contents into blocks
abbrev pub LaysNew : Disk → Volume → Command → Supplies → List Change → Type 0
LaysNew d v (Mkdir p) s base = Unit {0}
LaysNew d v (Put p bytes most) s base = nat_le (length bytes) (inline_limit v.size most) ≡ false → LaysContents d bytes s.blocks base
LaysNew d v (Rm p) s base = Unit {0}
LaysNew d v (Mv p q) s base = Unit {0}
LaysNew d v (SetAttr p k value) s base = Unit {0}
LaysNew d v (RmAttr p k) s base = Unit {0}
LaysNew d v (Grow n) s base = Unit {0}

-- the law: contents that are laid are there when the links are written, all erased behind them
abbrev pub LaidAreThere : Type 0
LaidAreThere = (d : Disk) (v : Volume) (c : Command) (s : Supplies)
    (chosen : Part → List Pair) (new : List ℕ) (is_new : Pair → Bool) (base : List Change) (p : ChangeSet)
    → IsDiskOf v.size (count_after c v.count) d → IsPatch p → AgreesOld p d → p.after ≡ p.before → AreFree v c s
    → changed_blocks base ≡ content_blocks v c s → LaysNew d v c s base
    → AreWritten d new (cut chosen (edited v c s)).attributes is_new base
    (links (outlined (cut chosen (edited v c s))).directories) p.changes
    → NewIsThere (reading_of (applied p d)) v c s × HasLaid v c s (applied p d)
