-- The names are followed as they are read.
use Rattle.lfs_fs.proofs.RowPaths.{path_after-read}
use Rattle.lfs_extract.proofs.host_path.follow_rest.Goals as goal

pub returns : goal.returns
returns c =
    path_after-read c.args.rest.now.items c.follow.new.path.items c.args.depth c.text_of.result c.args.name.now c.in_ok-follow.ensures
    c.text_of.ensures
