-- Laws of commands (own).
use Rattle.std.specs.Prelude.{◌≡◌, ℕ, ◌+◌, ◌*◌, ◌≤◌, List, length, sum_by}
use Rattle.lfs_meta.specs.Body.{Pair}
use Rattle.lfs_fs.specs.Directory.{Part, thread}
use Rattle.lfs_fs.specs.Volume.{Volume}
use Rattle.lfs_fs.specs.Uses.{uses}
use Rattle.lfs_fs.specs.Free.{free_blocks}
use Rattle.lfs_command.specs.Command.{Command}
use Rattle.lfs_command.specs.Supplies.{Supplies, supply_uses}
use Rattle.lfs_command.specs.Edited.{edited}
use Rattle.lfs_command.specs.Cut.{cut, new_pairs, new_pair_uses}
use Rattle.lfs_command.specs.Clean.{clean, IsClean}
use Rattle.lfs_command.specs.Need.{need, data_blocks, directory_blocks, part_blocks, dirty_parts, changed_parts}
use Rattle.lfs_command.specs.Accepted.{IsAccepted, AreChosen, Follows}
use Rattle.lfs_command.specs.Kept.{KeepLinks}
use Rattle.lfs_command.specs.Planned.{CarriesOut}
use Rattle.lfs_command.specs.Freed.{freed_uses, free_after}

-- an accepted command leaves a sound volume, whose tree is its equation
abbrev pub CommandsFollow : Type 0
CommandsFollow = (v : Volume) (c : Command) (s : Supplies) → IsAccepted v c s → Follows v c (edited v c s)

-- what it doesn't set stays as it was
abbrev pub CommandsAreFrugal : Type 0
CommandsAreFrugal = (v : Volume) (c : Command) (s : Supplies) → KeepLinks v.directories (edited v c s).directories

-- so it is when the parts that it sets are cut, into pairs that are free
abbrev pub CutsFollow : Type 0
CutsFollow = (v : Volume) (c : Command) (s : Supplies) (chosen : Part → List Pair) → IsAccepted v c s → AreChosen v c s chosen
    → Follows v c (cut chosen (edited v c s))

-- and nothing else is written
abbrev pub CutsAreFrugal : Type 0
CutsAreFrugal = (v : Volume) (c : Command) (s : Supplies) (chosen : Part → List Pair)
    → KeepLinks v.directories (cut chosen (edited v c s)).directories

-- and when the marks are taken off
abbrev pub CleansFollow : Type 0
CleansFollow = (v w : Volume) (c : Command) → Follows v c w → Follows v c (clean w)

-- what a command needs doesn't depend on what it gets
abbrev pub NeedIsTheSame : Type 0
NeedIsTheSame = (v : Volume) (c : Command) (s : Supplies)
    → need v c ≡ data_blocks v c + directory_blocks c + sum_by (part_blocks (edited v c s)) (dirty_parts (edited v c s))

-- it is the number of its new blocks
abbrev pub NeedIsExact : Type 0
NeedIsExact = (v : Volume) (c : Command) (s : Supplies) (chosen : Part → List Pair) → AreChosen v c s chosen
    → need v c ≡ data_blocks v c + directory_blocks c + 2 * sum_by (λ p. length (new_pairs chosen p)) (thread (edited v c s).directories)

-- at most two parts are changed, a new directory's own aside
abbrev pub FewPartsChange : Type 0
FewPartsChange = (v : Volume) (c : Command) (s : Supplies) → IsAccepted v c s → IsClean v → length (changed_parts v (edited v c s)) ≤ 2

-- a command's uses of blocks: what it removes or replaces goes, its supplies and new pairs come
abbrev pub UsesAfter : Type 0
UsesAfter = (v : Volume) (c : Command) (s : Supplies) (chosen : Part → List Pair) → IsAccepted v c s → AreChosen v c s chosen
    → (b : ℕ) → uses b (cut chosen (edited v c s)) + freed_uses v c b ≡ uses b v + supply_uses v c s b
    + new_pair_uses chosen (edited v c s) b

-- so the free blocks are known
abbrev pub FreeAfter : Type 0
FreeAfter = (v : Volume) (c : Command) (s : Supplies) (chosen : Part → List Pair) → IsAccepted v c s → AreChosen v c s chosen
    → free_blocks (cut chosen (edited v c s)) ≡ free_after v c s chosen

-- and so they are in the volume that the image then holds
abbrev pub FreeAfterHeld : Type 0
FreeAfterHeld = (v : Volume) (c : Command) (s : Supplies) (chosen : Part → List Pair) → IsAccepted v c s → AreChosen v c s chosen
    → free_blocks (clean (cut chosen (edited v c s))) ≡ free_after v c s chosen

-- where an accepted command leads to: there is one volume that it leaves
abbrev pub CommandsLeadOneWay : Type 0
CommandsLeadOneWay = (v : Volume) (c : Command) (w u : Volume) → CarriesOut c v w → CarriesOut c v u → u ≡ w
