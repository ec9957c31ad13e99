-- Parts that a command sets, weighed one by one (own).
use Rattle.std.specs.Prelude.{ℕ, ◌-◌, ◌*◌, ◌&&◌, ◌||◌, Bool, nat_lt, if◌then◌else◌, length, sum_by}
use Rattle.std.specs.List.{list_any}
use Rattle.lfs_fs.specs.Pair.{root, same_pair}
use Rattle.lfs_fs.specs.Weight.{weight}
use Rattle.lfs_fs.specs.Directory.{Part, Directory, parts}
use Rattle.lfs_law.specs.PartsCut.{runs_by}

-- an entry weighs more than the room
abbrev pub is_too_large_by : ℕ → ℕ → Part → Bool
is_too_large_by room superblock p = (same_pair p.pair root && nat_lt room superblock) || list_any (λ e. nat_lt room (weight e)) p.entries

-- so it is in a part that is set
abbrev pub is_set_too_large : ℕ → ℕ → Part → Bool
is_set_too_large room superblock p = p.dirty && is_too_large_by room superblock p

-- so it is in some part of a directory
abbrev pub has_too_large_by : ℕ → ℕ → Directory → Bool
has_too_large_by room superblock d = list_any (is_set_too_large room superblock) (parts d)

-- the blocks of the new parts of a part, where it is set
abbrev pub blocks_set : ℕ → ℕ → Part → ℕ
blocks_set room superblock p = if p.dirty then 2 * (length (runs_by room superblock p) - 1) else 0

-- the same of the parts of a directory
abbrev pub set_blocks_of : ℕ → ℕ → Directory → ℕ
set_blocks_of room superblock d = sum_by (blocks_set room superblock) (parts d)
