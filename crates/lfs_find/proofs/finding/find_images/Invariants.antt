-- What is found so far, and where the search goes on.
use Rattle.lfs_find.proofs.FoundLemmas.{GoesOn}
use Rattle.lfs_find.proofs.finding.find_images.Given as goal

abbrev pub invariant-loop-at : goal.invariant-loop-at
invariant-loop-at l = GoesOn l.bytes l.found.items l.at l.search
