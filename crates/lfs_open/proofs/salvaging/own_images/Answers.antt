-- The bytes of an image are few, and those of its copy as many.
use Rattle.lfs_open.proofs.OpenedLemmas.{image_fits}
use Rattle.lfs_open.proofs.salvaging.own_images.Goals as goal

pub overflow_mul-size : goal.overflow_mul-size
overflow_mul-size c = image_fits c.args.image.now.disk c.size.result c.count.result c.size.ensures.disk c.size.ensures.value c.count.ensures
