use Rattle.std.proofs.Common.{◌≡◌, ℕ, ◌-◌, ◌^◌, ◌<◌, slice_index}
use Rattle.lfs_file.specs.Pointer.{pointer}
use Rattle.lfs_file.proofs.skip_list.points_back.Given as goal

-- the pointers so far name the blocks that they have to
abbrev pub invariant-loop-i : goal.invariant-loop-i
invariant-loop-i g l = (k : ℕ) → k < l.i → pointer l.block k ≡ slice_index l.chain (l.n - 2 ^ k)
