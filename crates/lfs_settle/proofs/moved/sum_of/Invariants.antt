-- The shares of the parts so far.
use Rattle.std.proofs.Common.{◌≡◌, take}
use Rattle.lfs_fs.specs.Gathering.{delta_from}
use Rattle.lfs_settle.proofs.moved.sum_of.Given as goal

abbrev pub invariant-loop-part : goal.invariant-loop-part
invariant-loop-part l = l.sum ≡ delta_from (take l.part-index l.parts)
