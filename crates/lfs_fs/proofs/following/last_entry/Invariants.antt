use Rattle.std.proofs.Common.{◌≡◌, ◌≤◌, [], length, drop}
use Rattle.lfs_fs.specs.Gathering.{part_entries}
use Rattle.lfs_fs.proofs.following.last_entry.Given as goal

-- the parts that are passed have none
abbrev pub invariant-parts : goal.invariant-parts
invariant-parts l = (l.index ≤ length l.fn.parts) × (part_entries (drop l.index l.fn.parts) ≡ [])

abbrev pub decreases-parts : goal.decreases-parts
decreases-parts l = l.index
