use Rattle.std.proofs.Common.{sym, arith}
use Rattle.lfs_tag.specs.Found.{tag_found}
use Rattle.lfs_tag.proofs.Steps.{tag_at-shorter}
use Rattle.lfs_survey.proofs.may_be_empty.glance_at.Goals as goal

pub loop-found-smaller : goal.loop-found-smaller
loop-found-smaller c =
    let k = tag_at-shorter c.loop-found.prev c.loop-found.rest.now (tag_found c.in-Some.found) (sym c.in-Some.ensures.tag) in omega (arith, k)
