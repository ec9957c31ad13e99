use Rattle.lfs_history.proofs.TogetherLemmas.{done_is_one, one_is_done}
use Rattle.lfs_history.proofs.laws.lists_of_one_are_commands.Goals as goal

pub returns : goal.returns
returns c = record { done = one_is_done; together = done_is_one }
