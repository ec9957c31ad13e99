-- Volumes that use the first blocks of an image (own).
use Rattle.std.specs.Prelude.{ℕ, ◌≡◌, ◌<◌, ◌≤◌, ◌==◌, nat_le}
use Rattle.lfs_fs.specs.Uses.{uses}
use Rattle.lfs_fs.specs.Volume.{Volume}

-- the blocks from one on are those that are free
abbrev pub AreFreeFrom : Volume → ℕ → Type 0
AreFreeFrom v next = (b : ℕ) → b < v.count → (uses b v == 0) ≡ nat_le next b

-- It uses so many blocks, the first ones.
pub record UsesFirst (v : Volume) (n : ℕ) : Type 0 where
  pub begin : 2 ≤ n
  pub within : n ≤ v.count
  pub free : AreFreeFrom v n
