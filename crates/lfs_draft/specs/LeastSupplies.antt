-- What a command takes for what it makes: the least free blocks (own).
use Rattle.std.specs.Prelude.{ℕ, ◌+◌, List, [], ◌∷◌, take}
use Rattle.lfs_meta.specs.Body.{Pair}
use Rattle.lfs_fs.specs.Volume.{Volume}
use Rattle.lfs_command.specs.Command.{Command}
use Rattle.lfs_command.specs.Supplies.{Supplies}
use Rattle.lfs_command.specs.Need.{data_blocks, directory_blocks}

-- the first two of some blocks as a pair, which isn't the root's where they are fewer
abbrev pub least_pair : List ℕ → Pair
least_pair [] = (0, 0)
least_pair (a ∷ []) = (0, 0)
least_pair (a ∷ b ∷ more) = (a, b)

-- what a command takes for what it makes: the first of the free blocks
abbrev pub least_supplies : Volume → Command → List ℕ → Supplies
least_supplies v c free = record { blocks = take (data_blocks v c) free; pair = least_pair free }

-- how many those are
abbrev pub made_blocks : Volume → Command → ℕ
made_blocks v c = data_blocks v c + directory_blocks c
