-- What the logs that are left state behind those that were looked at is what all of them do.
use Rattle.std.proofs.Common.{◌≡◌, ◌-◌, ◌≤◌, length}
use Rattle.lfs_find.specs.Sizes.{sizes_from, sizes_stated}
use Rattle.lfs_find.proofs.sizes.sizes_stated.Given as goal

abbrev pub invariant-loop-at : goal.invariant-loop-at
invariant-loop-at l = record {
  same : sizes_from l.bytes (length l.bytes - l.at) l.spent l.sizes.items ≡ sizes_stated l.bytes;
  few : length l.sizes.items ≤ 16;
}
