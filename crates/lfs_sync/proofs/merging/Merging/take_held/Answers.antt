use Rattle.std.proofs.Common.{arith}
use Rattle.lfs_fs.proofs.PathOrderLemmas.{paths_are_ordered}
use Rattle.lfs_listing.specs.Below.{names}
use Rattle.lfs_sync.proofs.TakeLemmas.{first_left, held_fewer, held_taken}
use Rattle.lfs_sync.proofs.merging.Merging.take_held.Goals as goal

pub overflow_add-self : goal.overflow_add-self
overflow_add-self c = omega (arith, c.in_ok-plan_removal.ensures.places.held)

pub returns-clause-goes_on : goal.returns-clause-goes_on
returns-clause-goes_on c d rows wanted less way =
    held_taken paths_are_ordered d (names c.args.at.now) rows c.args.self.now c.plan_removal.new.self c.args.held.now wanted
    c.in_ok-plan_removal.ensures.places way c.index-held-self.result
    (first_left c.args.held.now c.args.self.now.held c.index-held-self.result c.requires c.index-held-self.is)
    (c.in_ok-plan_removal.ensures.plans d rows) less

pub returns-clause-fewer : goal.returns-clause-fewer
returns-clause-fewer c wanted =
    held_fewer c.args.self.now c.plan_removal.new.self c.args.held.now wanted c.in_ok-plan_removal.ensures.places c.requires
