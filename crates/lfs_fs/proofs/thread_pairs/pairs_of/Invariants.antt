use Rattle.std.proofs.Common.{◌≡◌, map, take}
use Rattle.lfs_fs.specs.Directory.{thread}
use Rattle.lfs_fs.proofs.thread_pairs.pairs_of.Given as goal

abbrev pub invariant-loop-directory : goal.invariant-loop-directory
invariant-loop-directory l = l.pairs.items ≡ map (λ p. p.pair) (thread (take l.directory-index l.directories))
