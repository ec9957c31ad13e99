-- A pair that isn't read holds no part.
use Rattle.lfs_survey.proofs.LoneLemmas.{unread_none}
use Rattle.lfs_survey.proofs.lone_pairs.part_at.Goals as goal

pub returns-in_default : goal.returns-in_default
returns-in_default g c =
    unread_none (g.B.Blocks.disk c.args.blocks.now) c.args.pair c.in-Err.fault c.unread_pairs_hold_no_part.ensures c.in_default.not-Memory
    c.in-Err.ensures.refused

pub returns-in-Ok : goal.returns-in-Ok
returns-in-Ok g c = c.in-Ok.ensures.found
