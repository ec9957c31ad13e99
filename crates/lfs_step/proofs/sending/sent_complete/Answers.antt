-- A text that went out as a whole is no fault.
use Rattle.std.proofs.Common.{refl}
use Rattle.lfs_step.proofs.sending.sent_complete.Goals as goal

pub returns-then-complete : goal.returns-then-complete
returns-then-complete c = rw c.if-complete.true refl

pub returns-else-complete : goal.returns-else-complete
returns-else-complete c = rw c.if-complete.false refl
