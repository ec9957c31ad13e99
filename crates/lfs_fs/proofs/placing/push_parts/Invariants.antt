use Rattle.std.proofs.Common.{◌≡◌, ◌++◌, ◌≤◌, length, drop}
use Rattle.lfs_fs.specs.Directory.{parts}
use Rattle.lfs_fs.specs.Placed.{places_in}
use Rattle.lfs_fs.proofs.placing.push_parts.Given as goal

-- the places of the parts from this one on wait
abbrev pub invariant-loop-part : goal.invariant-loop-part
invariant-loop-part l = (l.part ≤ length (parts l.directory)) × (l.waiting
    ≡ places_in l.depth l.index l.part (drop l.part (parts l.directory)) ++ l.fn.waiting)

abbrev pub decreases-loop-part : goal.decreases-loop-part
decreases-loop-part l = l.part
