use Rattle.lfs_listing.proofs.UsesLemmas.{untaken_are_free, users_are_uses}
use Rattle.lfs_listing.proofs.laws.users_are_uses.Goals as goal

pub returns-clause-users : goal.returns-clause-users
returns-clause-users c = users_are_uses c.outlines_are_sound.ensures

pub returns-clause-free : goal.returns-clause-free
returns-clause-free c = untaken_are_free c.outlines_are_sound.ensures
