use Rattle.lfs_law.proofs.PlansHold.{plans_hold}
use Rattle.lfs_law.proofs.written_laws.plans_hold.Goals as goal

pub returns : goal.returns
returns c =
    plans_hold c.cuts_follow.ensures.cut c.cuts_follow.ensures.clean c.commands_are_frugal.ensures.cut
    c.written_volumes_are_held.ensures.held c.both_sides_hold.ensures.thread
    c.outlines_are_written.ensures.written
