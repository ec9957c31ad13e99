-- Each move is taken by its own function.
use Rattle.std.proofs.Common.{rules}
use Rattle.lfs_session.proofs.session.Session.step.Goals as goal

pub returns-in-Undo : goal.returns-in-Undo
returns-in-Undo c = search rules
