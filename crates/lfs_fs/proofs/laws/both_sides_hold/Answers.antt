use Rattle.lfs_fs.proofs.BothSidesLemmas.{held_are_held_by_links, held_by_links_are_held}
use Rattle.lfs_fs.proofs.laws.both_sides_hold.Goals as goal

pub returns-clause-links : goal.returns-clause-links
returns-clause-links c = held_are_held_by_links

pub returns-clause-thread : goal.returns-clause-thread
returns-clause-thread c = held_by_links_are_held
