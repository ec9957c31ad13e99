-- What the pairs that are left state behind those that were looked at is what all of them do.
use Rattle.std.proofs.Common.{◌≡◌, ◌-◌, Some, None}
use Rattle.lfs_block.specs.Disk.{image_of}
use Rattle.lfs_fs.specs.Pair.{root}
use Rattle.lfs_lower.specs.Beginning.{last_along}
use Rattle.lfs_lower.proofs.beginning.superblock_of.Given as goal

abbrev pub invariant-loop-pair : goal.invariant-loop-pair
invariant-loop-pair l =
    last_along (image_of l.size l.bytes) (16 - l._pair) l.last l.next ≡ last_along (image_of l.size l.bytes) 16 None (Some root)
