use Rattle.lfs_history.proofs.EquationLemmas.{push_equations}
use Rattle.lfs_history.proofs.laws.commands_push_equations.Goals as goal

pub returns : goal.returns
returns c = push_equations c.commands_are_equations.ensures
