-- Moves that carry no command out.
use Rattle.lfs_step.proofs.step.Step.may_take_older.Goals as goal

pub returns-in-Change : goal.returns-in-Change
returns-in-Change c = rw c.in-Change.is c.carry_nothing_out.ensures
