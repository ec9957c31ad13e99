-- Parts that take more room than a block has (own).
use Rattle.std.specs.Prelude.{ℕ, ◌-◌, ◌&&◌, Bool, List, [], ◌∷◌, nat_lt, if◌then◌else◌, length, flat_map}
use Rattle.lfs_fs.specs.Directory.{Part}
use Rattle.lfs_cut.specs.declared.overflow.Overflow.{Overflow}
use Rattle.lfs_law.specs.PartsCut.{runs_by}

-- the part is set, and has more than one run
abbrev pub is_overfull : ℕ → ℕ → Part → Bool
is_overfull room superblock p = p.dirty && nat_lt 1 (length (runs_by room superblock p))

-- its pair with the number of its new parts
abbrev pub overflow_of : ℕ → ℕ → Part → List Overflow
overflow_of room superblock p = if is_overfull room superblock p then record { pair = p.pair; len = length (runs_by room superblock p) - 1 }
    ∷ [] else []

-- those of some parts
abbrev pub overflows_of : ℕ → ℕ → List Part → List Overflow
overflows_of room superblock ps = flat_map (overflow_of room superblock) ps
