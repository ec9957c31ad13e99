-- Part by part.
use Rattle.lfs_salvage.proofs.ApartLemmas.{parts_in_use}
use Rattle.lfs_salvage.proofs.laws.parts_are_in_use.Goals as goal

pub returns : goal.returns
returns c = parts_in_use
