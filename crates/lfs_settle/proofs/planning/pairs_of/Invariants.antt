-- The pairs of the parts so far.
use Rattle.std.proofs.Common.{◌≡◌, map, take}
use Rattle.lfs_settle.proofs.planning.pairs_of.Given as goal

abbrev pub invariant-loop-part : goal.invariant-loop-part
invariant-loop-part l = l.pairs.items ≡ map (λ p. p.0) (take l.part-index l.parts)
