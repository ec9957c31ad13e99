-- So many blocks are a geometry.
use Rattle.std.proofs.Common.{◌≡◌, rules, sym, subst}
use Rattle.lfs_block.specs.Geometry.{IsGeometry}
use Rattle.lfs_pack.specs.Least.{most_count}
use Rattle.lfs_pack.proofs.LeastCounts.{most_is_geometry}
use Rattle.lfs_pack.proofs.least.most_count.Goals as goal

pub returns-clause-geometry : goal.returns-clause-geometry
returns-clause-geometry c =
    let value : c.min.result ≡ most_count c.args.size = search rules in
    subst (IsGeometry c.args.size) (sym value) (most_is_geometry c.args.size c.requires)
