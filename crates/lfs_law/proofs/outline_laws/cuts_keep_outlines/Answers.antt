use Rattle.lfs_law.proofs.OutlineCuts.{cuts_outline}
use Rattle.lfs_law.proofs.OutlineRoom.{pairs_are_chosen_alike}
use Rattle.lfs_law.proofs.outline_laws.cuts_keep_outlines.Goals as goal

pub returns-clause-cut : goal.returns-clause-cut
returns-clause-cut c = cuts_outline

pub returns-clause-chosen : goal.returns-clause-chosen
returns-clause-chosen c = pairs_are_chosen_alike
