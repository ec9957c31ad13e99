-- An image in memory, and the room that it has there (own).
use Rattle.std.specs.Prelude.{◌≡◌, ℕ, ◌*◌, ◌≤◌, Bool, false, IsTrue}
use Rattle.lfs_block.specs.Disk.{Disk, IsDisk}

-- The meaning of an `Image`: its Model's Value. The disk is what the image is. The room is the number of blocks up to which it is
-- lengthened without memory, and no part of what the image is.
pub record Medium : Type 0 where
  pub disk : Disk
  pub room : ℕ

pub record IsMedium (m : Medium) : Type 0 where
  pub disk : IsDisk m.disk
  pub room : m.disk.count ≤ m.room

-- a vector of this capacity, in bytes, holds as many blocks as there is room for
pub record IsHeldIn (of_capacity : ℕ) (m : Medium) : Type 0 where
  pub medium : IsMedium m
  pub capacity : m.room * m.disk.size ≤ of_capacity

-- There is room for so many blocks, or memory was refused and nothing is changed. The image stays, its room never shrinks, and where
-- there was room enough nothing is refused.
pub record Reserves (of_count : ℕ) (done : Bool) (old new : Medium) : Type 0 where
  pub disk : new.disk ≡ old.disk
  pub most : old.room ≤ new.room
  pub done_is : IsTrue done → of_count ≤ new.room
  pub refused : done ≡ false → new ≡ old
  pub enough : of_count ≤ old.room → IsTrue done
