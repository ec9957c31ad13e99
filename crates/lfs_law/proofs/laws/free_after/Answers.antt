use Rattle.lfs_law.proofs.CutsFollow.{uses_after, free_after_command}
use Rattle.lfs_law.proofs.FreeAfterHeld.{free_after_held}
use Rattle.lfs_law.proofs.laws.free_after.Goals as goal

pub returns-clause-uses : goal.returns-clause-uses
returns-clause-uses c = uses_after c.names_are_ordered.ensures c.entries_are_cut_greedily.ensures.joined

pub returns-clause-free : goal.returns-clause-free
returns-clause-free c = free_after_command c.names_are_ordered.ensures c.entries_are_cut_greedily.ensures.joined

pub returns-clause-held : goal.returns-clause-held
returns-clause-held c = free_after_held c.names_are_ordered.ensures c.entries_are_cut_greedily.ensures.joined
