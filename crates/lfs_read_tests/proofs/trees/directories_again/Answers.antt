-- The image mounts.
use Rattle.lfs_fs.proofs.OutliningLemmas.{mounted_outline}
use Rattle.lfs_read_tests.proofs.trees.directories_again.Goals as goal

pub outline_of-requires : goal.outline_of-requires
outline_of-requires c = record {
  outline = (
    c.in-Ok._mounted.outline,
    mounted_outline c.args.image.now.disk c.in-Ok._mounted c.in-Ok.ensures.mounted,
  );
}
