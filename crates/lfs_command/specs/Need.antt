-- How many new blocks a command needs, and which parts it changes (own).
use Rattle.std.specs.Prelude.{ℕ, ◌+◌, ◌-◌, ◌*◌, ◌==◌, ◌&&◌, not, Bool, List, nat_le, if◌then◌else◌, length, sum_by}
use Rattle.std.specs.List.{filter}
use Rattle.lfs_file.specs.Capacity.{least_blocks}
use Rattle.lfs_meta.specs.Body.{Pair}
use Rattle.lfs_fs.specs.Directory.{Part, thread}
use Rattle.lfs_fs.specs.Uses.{uses}
use Rattle.lfs_fs.specs.Volume.{Volume}
use Rattle.lfs_command.specs.Command.{Command, Mkdir, Put, Rm, Mv, SetAttr, RmAttr, Grow}
use Rattle.lfs_command.specs.Supplies.{nothing, inline_limit}
use Rattle.lfs_command.specs.Edited.{edited}
use Rattle.lfs_command.specs.Cut.{runs}

-- the parts that are set
abbrev pub dirty_parts : Volume → List Part
dirty_parts v = filter (λ p. p.dirty) (thread v.directories)

-- a pair whose first block the volume doesn't use
abbrev pub is_new_to : Volume → Pair → Bool
is_new_to v pair = uses pair.0 v == 0

-- the parts that are set in w whose pairs v has
abbrev pub changed_parts : Volume → Volume → List Part
changed_parts v w = filter (λ p. p.dirty && not (is_new_to v p.pair)) (thread w.directories)

-- the blocks of the contents, where they don't stand in the entry
abbrev pub data_blocks : Volume → Command → ℕ
data_blocks v (Mkdir p) = 0
data_blocks v (Put p bytes most) = if nat_le (length bytes) (inline_limit v.size most) then 0 else least_blocks v.size (length bytes)
data_blocks v (Rm p) = 0
data_blocks v (Mv p q) = 0
data_blocks v (SetAttr p k value) = 0
data_blocks v (RmAttr p k) = 0
data_blocks v (Grow n) = 0

-- the blocks of a new directory
abbrev pub directory_blocks : Command → ℕ
directory_blocks (Mkdir p) = 2
directory_blocks (Put p bytes most) = 0
directory_blocks (Rm p) = 0
directory_blocks (Mv p q) = 0
directory_blocks (SetAttr p k value) = 0
directory_blocks (RmAttr p k) = 0
directory_blocks (Grow n) = 0

-- the blocks of the new parts of a part: two for each run behind the first
abbrev pub part_blocks : Volume → Part → ℕ
part_blocks v p = 2 * (length (runs v p) - 1)

-- The new blocks of a command. They don't depend on which supplies it gets.
abbrev pub need : Volume → Command → ℕ
need v c = data_blocks v c + directory_blocks c + sum_by (part_blocks (edited v c nothing)) (dirty_parts (edited v c nothing))
