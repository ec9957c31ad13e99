use Rattle.std.proofs.Common.{arith}
use Rattle.lfs_fs.proofs.PathOrderLemmas.{paths_are_ordered}
use Rattle.lfs_listing.specs.Below.{names}
use Rattle.lfs_sync.proofs.TakeLemmas.{first_left, wanted_fewer, wanted_taken}
use Rattle.lfs_sync.proofs.merging.Merging.take_wanted.Goals as goal

pub overflow_add-self : goal.overflow_add-self
overflow_add-self c = omega (arith, c.in_ok-plan_making.ensures.places.wanted)

pub returns-clause-goes_on : goal.returns-clause-goes_on
returns-clause-goes_on c d held greater way =
    wanted_taken paths_are_ordered d (names c.args.at.now) c.args.rows.now c.args.self.now c.plan_making.new.self held c.args.wanted.now
    c.in_ok-plan_making.ensures.places way c.index-wanted-self.result
    (first_left c.args.wanted.now c.args.self.now.wanted c.index-wanted-self.result c.requires c.index-wanted-self.is)
    c.in_ok-plan_making.ensures.plans greater

pub returns-clause-fewer : goal.returns-clause-fewer
returns-clause-fewer c held =
    wanted_fewer c.args.self.now c.plan_making.new.self held c.args.wanted.now c.in_ok-plan_making.ensures.places c.requires
