use Rattle.std.proofs.Common.{take}
use Rattle.std.specs.Prelude.{All}
use Rattle.lfs_meta.specs.Fits.{EntryFits}
use Rattle.lfs_pair.proofs.difference.entries_fit.Given as goal

abbrev pub invariant-loop-entry : goal.invariant-loop-entry
invariant-loop-entry l = All EntryFits (take l.entry-index l.entries)
