-- The blocks of a volume that nothing uses (littlefs disk version 2.0).
use Rattle.std.specs.Prelude.{◌≡◌, ◌<◌, ◌==◌, ℕ, List}
use Rattle.std.specs.List.{filter, range_with_len}
use Rattle.lfs_fs.specs.Volume.{Volume}
use Rattle.lfs_fs.specs.Uses.{uses}

-- a block of the volume that nothing uses
abbrev pub IsFree : Volume → ℕ → Type 0
IsFree v b = (b < v.count) × (uses b v ≡ 0)

-- all of them, rising
abbrev pub free_blocks : Volume → List ℕ
free_blocks v = filter (λ b. uses b v == 0) (range_with_len 0 v.count)
