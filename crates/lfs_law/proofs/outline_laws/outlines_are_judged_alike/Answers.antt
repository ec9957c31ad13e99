use Rattle.lfs_law.proofs.OutlinesJudged.{outlines_are_judged_alike}
use Rattle.lfs_law.proofs.OutlineRoom.{outlines_take_same_room}
use Rattle.lfs_law.proofs.outline_laws.outlines_are_judged_alike.Goals as goal

pub returns-clause-judged : goal.returns-clause-judged
returns-clause-judged c = outlines_are_judged_alike

pub returns-clause-room : goal.returns-clause-room
returns-clause-room c = outlines_take_same_room
