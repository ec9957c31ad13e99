-- A pair that isn't read holds no part, unless memory was wanting.
use Rattle.std.proofs.Common.{sym}
use Rattle.lfs_block.specs.Disk.{Disk}
use Rattle.lfs_pair.proofs.ChangeLemmas.{has-cause}
use Rattle.lfs_pair.proofs.changing.held_part.Goals as goal

pub returns-in_default : goal.returns-in_default
returns-in_default g c =
    let d : Disk = g.B.Blocks.disk c.args.blocks.now in
    record {
      held =
          sym (c.unread_pairs_hold_no_part.ensures c.in-Err.fault d c.args.pair
          (has-cause c.in-Err.fault d c.args.pair c.in-Err.ensures.refused c.in_default.not-Memory));
      fit = tt;
      complete = tt;
    }

pub returns-in-Ok : goal.returns-in-Ok
returns-in-Ok g c = record { held = sym c.in-Ok.ensures.found; fit = c.in-Ok.ensures.fit; complete = c.in-Ok.ensures.complete }

pub returns-in-Memory : goal.returns-in-Memory
returns-in-Memory g c = record { held = tt; fit = tt; complete = tt }
