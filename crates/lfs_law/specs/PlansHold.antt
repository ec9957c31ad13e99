-- What a written outline of an accepted command leaves, and which blocks it is written to (own).
use Rattle.std.specs.Prelude.{◌≡◌, ℕ, ◌+◌, ◌<◌, ◌≤◌, not, nat_le, Bool, false, List, [], if◌then◌else◌, length, map}
use Rattle.std.specs.Prelude.{slice_index_or}
use Rattle.lfs_block.specs.Change.{Change}
use Rattle.lfs_block.specs.Disk.{Disk}
use Rattle.lfs_block.specs.Patch.{ChangeSet, applied}
use Rattle.lfs_meta.specs.Attribute.{Attributes}
use Rattle.lfs_meta.specs.Body.{Pair}
use Rattle.lfs_pair.specs.Difference.{Forced}
use Rattle.lfs_fs.specs.Directory.{Part}
use Rattle.lfs_fs.specs.Outlined.{outlined}
use Rattle.lfs_fs.specs.Volume.{Volume}
use Rattle.lfs_fs.specs.Thread.{Link, links}
use Rattle.lfs_fs.specs.Used.{Marks}
use Rattle.lfs_fs.specs.Uses.{times, uses}
use Rattle.lfs_fs.specs.Sound.{IsSound}
use Rattle.lfs_fs.specs.Reading.{reading_of}
use Rattle.lfs_fs.specs.Holds.{Holds}
use Rattle.lfs_fs.specs.Stored.{SaysVolume}
use Rattle.lfs_command.specs.Command.{Command, Mkdir, Put, Rm, Mv, SetAttr, RmAttr, Grow}
use Rattle.lfs_command.specs.Growth.{count_after, grown}
use Rattle.lfs_command.specs.Supplies.{Supplies, AreFree, inline_limit, supply_uses}
use Rattle.lfs_command.specs.Edited.{edited}
use Rattle.lfs_command.specs.Cut.{cut, new_pair_uses}
use Rattle.lfs_command.specs.Clean.{clean}
use Rattle.lfs_command.specs.Accepted.{IsAccepted, AreChosen}
use Rattle.lfs_command.specs.Need.{is_new_to, changed_parts}
use Rattle.lfs_command.specs.Planned.{IsFrugal, TakesLeast}
use Rattle.lfs_law.specs.WrittenLinks.{changed_blocks, links_blocks, number_in, set_uses, AreWritten, ChangesLinks}
use Rattle.lfs_law.specs.Lengthened.{HoldsParts}
use Rattle.lfs_law.specs.OutlineLaws.{WritesOutline}

-- the law: where a patch writes the outline of what an accepted command leaves, cut, over the image as the command lengthens it, the
-- patched image holds it
abbrev pub PlansHold : Type 0
PlansHold = (d : Disk) (v : Volume) (c : Command) (s : Supplies)
    (chosen : Part → List Pair) (old new : List ℕ) (is_new : Pair → Bool) (base : List Change) (p : ChangeSet)
    → HoldsParts (reading_of d) (grown c v) old → SaysVolume (cut chosen (edited v c s)) new
    → IsAccepted v c s → AreChosen v c s chosen → WritesOutline d (grown c v) (cut chosen (edited v c s)) old new is_new base p
    → Holds (reading_of (applied p d)) (clean (cut chosen (edited v c s)))

-- ---- which blocks are written

-- the blocks of a file's new contents, where they don't stand in its entry
abbrev pub content_blocks : Volume → Command → Supplies → List ℕ
content_blocks v (Mkdir p) s = []
content_blocks v (Put p bytes most) s = if nat_le (length bytes) (inline_limit v.size most) then [] else s.blocks
content_blocks v (Rm p) s = []
content_blocks v (Mv p q) s = []
content_blocks v (SetAttr p k value) s = []
content_blocks v (RmAttr p k) s = []
content_blocks v (Grow n) s = []

-- a pair whose first block a table doesn't mark
abbrev pub is_unmarked : List Bool → Pair → Bool
is_unmarked used pair = not (slice_index_or used pair.0 false)

-- the law: a table of the blocks that the volume uses tells its pairs from new ones
abbrev pub TablesTellNew : Type 0
TablesTellNew = (v : Volume) (used : List Bool) → Marks used (λ b. uses b v)
    → (d : Disk) (bytes : List ℕ) (attributes : Attributes) (base : List Change) (ls : List Link) (cs : List Change)
    → AreWritten d bytes attributes (is_unmarked used) base ls cs → AreWritten d bytes attributes (is_new_to v) base ls cs

-- the law: and so it is of pairs that are changed
abbrev pub TablesTellChanged : Type 0
TablesTellChanged = (v : Volume) (used : List Bool) → Marks used (λ b. uses b v)
    → (d : Disk) (forced : Forced) (ls : List Link) (cs : List Change)
    → ChangesLinks d (is_unmarked used) forced ls cs → ChangesLinks d (is_new_to v) forced ls cs

-- the blocks that changes name of the parts that are set in w whose pairs v has, one of each pair
abbrev pub rewritten_blocks : List Change → Volume → Volume → List ℕ
rewritten_blocks cs v w = map (λ p. number_in cs p.pair) (changed_parts v w)

-- the law: no block is written twice
abbrev pub BlocksAreWrittenOnce : Type 0
BlocksAreWrittenOnce = (v : Volume) (c : Command) (s : Supplies) (chosen : Part → List Pair) → IsAccepted v c s → AreChosen v c s chosen
    → (n : ℕ) → times n (content_blocks v c s) + set_uses n (links (outlined (cut chosen (edited v c s))).directories) ≤ 1

-- the law: what is written are the blocks that the command takes, and one of each pair of the volume whose part it sets
abbrev pub BlocksAreTaken : Type 0
BlocksAreTaken = (cs : List Change) (v : Volume) (c : Command) (s : Supplies) (chosen : Part → List Pair) → IsAccepted v c s
    → AreChosen v c s chosen
    → (n : ℕ) → times n (content_blocks v c s) + times n (links_blocks cs (is_new_to v) (links (cut chosen (edited v c s)).directories))
    ≡ supply_uses v c s n + new_pair_uses chosen (edited v c s) n + times n (rewritten_blocks cs v (edited v c s))

-- the law: then they are free, each taken once
abbrev pub LeastAreFree : Type 0
LeastAreFree = (v : Volume) (c : Command) (s : Supplies) (chosen : Part → List Pair) → IsSound v → TakesLeast v c s chosen
    → AreFree v c s
    × ((b : ℕ) → uses b v + supply_uses v c s b + new_pair_uses chosen (edited v c s) b ≤ 1)
    × ((b : ℕ) → 0 < new_pair_uses chosen (edited v c s) b → b < count_after c v.count)

-- the law: no block is changed but the least free ones that the command takes, and one of the pair of each part that it changes
abbrev pub PlansAreFrugal : Type 0
PlansAreFrugal = (d : Disk) (v : Volume) (c : Command) (s : Supplies)
    (chosen : Part → List Pair) (old new : List ℕ) (base : List Change) (p : ChangeSet)
    → IsAccepted v c s → AreChosen v c s chosen → TakesLeast v c s chosen → changed_blocks base ≡ content_blocks v c s
    → WritesOutline d (grown c v) (cut chosen (edited v c s)) old new (is_new_to v) base p → IsFrugal v c s (changed_blocks p.changes)
