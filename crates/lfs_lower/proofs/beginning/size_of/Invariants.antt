-- Of the sizes that were looked at none is stated.
use Rattle.std.proofs.Common.{◌+◌, ◌-◌, ◌≡◌, ◌<◌, ◌≤◌, ◌%◌, ℕ, None}
use Rattle.lfs_lower.specs.Beginning.{begins_with}
use Rattle.lfs_lower.proofs.beginning.size_of.Given as goal

abbrev pub invariant-loop-size : goal.invariant-loop-size
invariant-loop-size l =
    (256 ≤ l.size) × (l.size % 16 ≡ 0) × (l.size < 70000) × ((less : ℕ) → less < l.size → begins_with less l.bytes ≡ None)

abbrev pub decreases-loop-size : goal.decreases-loop-size
decreases-loop-size l = 65536 + 16 - l.size
