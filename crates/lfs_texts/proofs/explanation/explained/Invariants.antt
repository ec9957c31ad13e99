-- The text says none of the faults so far.
use Rattle.std.proofs.Common.{map}
use Rattle.lfs_texts.specs.Explanations.{fault_of}
use Rattle.lfs_texts.proofs.FaultLemmas.{AreUnsaid}
use Rattle.lfs_texts.proofs.explanation.explained.Given as goal

abbrev pub invariant-each : goal.invariant-each
invariant-each l = AreUnsaid l.text l.known-index (map fault_of l.known-items)
