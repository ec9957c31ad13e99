use Rattle.std.proofs.Common.{◌≡◌, ◌++◌, ◌-◌, ◌≤◌, length, take, drop}
use Rattle.lfs_fs.specs.Unused.{unused, unused_from}
use Rattle.lfs_fs.proofs.used_blocks.lowest_unused.Given as goal

-- with the least of the blocks that are left they are the least
abbrev pub invariant-loop-block : goal.invariant-loop-block
invariant-loop-block l = record {
  complete : l.found.items ++ take (l.n - length l.found.items) (unused_from l.block (drop l.block l.used)) ≡ take l.n (unused l.used);
  few : length l.found.items ≤ l.n;
}
