use Rattle.std.proofs.Common.{◌≡◌, ◌<◌, ◌≤◌, ℕ, None}
use Rattle.lfs_block.specs.Change.{change_of}
use Rattle.lfs_block.specs.Disk.{block_of, erased_block}
use Rattle.lfs_block.proofs.patch.Patch.leaves_erased.Given as goal

-- each added block that was looked at is erased, or named
abbrev pub invariant-loop-n : goal.invariant-loop-n
invariant-loop-n l =
    (k : ℕ) → l.self.before ≤ k → k < l.n → change_of k l.self.changes ≡ None
    → block_of l.image.disk k ≡ erased_block l.image.disk.size
