-- The name stands behind the first names of the path.
use Rattle.lfs_fs.proofs.RowPaths.{path_follows}
use Rattle.lfs_fs.proofs.row_path.follow.Goals as goal

pub returns : goal.returns
returns g c =
    path_follows c.args.path.now.items c.truncate.new.self.items c.push.new.self.items c.args.depth c.args.name c.if-depth-eq0.false
    c.truncate.ensures.items c.in_ok-push.ensures.items
