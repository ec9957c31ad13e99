use Rattle.std.proofs.Common.{◌≡◌, ℕ, ◌<◌, true}
use Rattle.lfs_file.specs.SkipList.{is_linked_at}
use Rattle.lfs_file.proofs.skip_list.is_linked.Given as goal

-- the blocks so far pass
abbrev pub invariant-loop-n : goal.invariant-loop-n
invariant-loop-n g l = (k : ℕ) → k < l.n → is_linked_at (g.B.Blocks.disk l.blocks) l.chain k ≡ true
