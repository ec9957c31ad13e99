use Rattle.std.proofs.Common.{◌≡◌, ◌++◌, map, take}
use Rattle.lfs_fs.proofs.thread_pairs.push_pairs.Given as goal

abbrev pub invariant-loop-part : goal.invariant-loop-part
invariant-loop-part l = l.pairs.items ≡ l.fn.pairs.items ++ map (λ p. p.pair) (take l.part-index l.parts)
