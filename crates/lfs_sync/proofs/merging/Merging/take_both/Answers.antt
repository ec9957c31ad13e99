use Rattle.lfs_fs.proofs.PathOrderLemmas.{paths_are_ordered}
use Rattle.lfs_listing.specs.Below.{names}
use Rattle.lfs_sync.proofs.TakeLemmas.{both_fewer, both_taken, first_left}
use Rattle.lfs_sync.proofs.merging.Merging.take_both.Goals as goal

pub returns-clause-goes_on : goal.returns-clause-goes_on
returns-clause-goes_on g c way =
    both_taken paths_are_ordered (g.B.Blocks.disk c.args.disk.now) (names c.args.at.now) c.args.rows.now c.args.self.now
    c.plan_change.new.self c.args.held.now c.args.wanted.now
    c.in_ok-plan_change.ensures.places way c.index-held-self.result c.index-wanted-self.result
    (first_left c.args.held.now c.args.self.now.held c.index-held-self.result c.requires.held c.index-held-self.is)
    (first_left c.args.wanted.now c.args.self.now.wanted c.index-wanted-self.result c.requires.wanted c.index-wanted-self.is)
    c.in_ok-plan_change.ensures.plans c.requires.order

pub returns-clause-fewer : goal.returns-clause-fewer
returns-clause-fewer g c =
    both_fewer c.args.self.now c.plan_change.new.self c.args.held.now c.args.wanted.now c.in_ok-plan_change.ensures.places c.requires.held
    c.requires.wanted
