use Rattle.lfs_history.proofs.TogetherLemmas.{push_all_equations}
use Rattle.lfs_history.proofs.laws.commands_push_equations_together.Goals as goal

pub returns : goal.returns
returns c = push_all_equations c.commands_are_made_together.ensures.equations
