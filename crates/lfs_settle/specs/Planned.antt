-- What settles an image (own).
use Rattle.std.specs.Prelude.{◌≡◌, not, List, [], All, if◌then◌else◌}
use Rattle.std.specs.List.{filter}
use Rattle.lfs_block.specs.Disk.{Disk}
use Rattle.lfs_meta.specs.Body.{Pair}
use Rattle.lfs_fs.specs.Gathering.{PairPart}
use Rattle.lfs_fs.specs.Reading.{Reading}
use Rattle.lfs_lower.specs.Joining.{CanPut}
use Rattle.lfs_lower.specs.LaterReading.{later_reading_of}
use Rattle.lfs_settle.specs.InStep.{in_step, thread_pairs, thread_parts}
use Rattle.lfs_settle.specs.Settled.{can_settle, is_held, settled_parts, settled_reading_of}

-- the settled parts that pairs don't hold already
abbrev pub changed_parts : Reading → List PairPart
changed_parts r = filter (λ p. not (is_held r p)) (settled_parts (thread_parts (in_step r)))

-- those that are to be put: none if the image can't be settled
abbrev pub parts_to_put : Reading → List PairPart
parts_to_put r = if can_settle r (in_step r) then changed_parts r else []

-- the pairs along the settled thread, which are to be lowered, and the parts that are to be put then
pub record IsPlan (d : Disk) (pairs : List Pair) (changed : List PairPart) : Type 0 where
  pub pairs_are : pairs ≡ thread_pairs (settled_reading_of d)
  pub changed_are : changed ≡ parts_to_put (later_reading_of d)
  pub can : All (CanPut d) changed
