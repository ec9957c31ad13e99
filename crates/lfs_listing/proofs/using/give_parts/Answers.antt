use Rattle.lfs_listing.proofs.UsingLemmas.{parts_more}
use Rattle.lfs_listing.proofs.using.give_parts.Goals as goal

pub each-preserved : goal.each-preserved
each-preserved c =
    parts_more c.args.number c.args.users.now c.each.users c.give_part.new.users c.args.parts.now c.each.part-index c.part-item.result
    c.each-test.true c.part-item.is c.each.invariant c.give_part.ensures
