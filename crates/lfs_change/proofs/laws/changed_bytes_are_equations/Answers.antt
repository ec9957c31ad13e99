use Rattle.lfs_change.proofs.LawLemmas.{bytes_are_equations}
use Rattle.lfs_change.proofs.laws.changed_bytes_are_equations.Goals as goal

pub returns : goal.returns
returns c = bytes_are_equations c.changed_bytes_are_denoted.ensures c.commands_push_equations.ensures
