-- All is handed over.
use Rattle.std.proofs.Common.{◌∙◌}
use Rattle.lfs_journal.proofs.joint.Joint.into_patch.Goals as goal

pub returns : goal.returns
returns c = c.of.ensures ∙ c.self.view_is
