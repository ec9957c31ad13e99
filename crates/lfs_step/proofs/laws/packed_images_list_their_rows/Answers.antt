use Rattle.lfs_step.proofs.PackedListed.{packed_images_list_their_rows}
use Rattle.lfs_step.proofs.laws.packed_images_list_their_rows.Goals as goal

pub returns : goal.returns
returns c = packed_images_list_their_rows c.paths_are_ordered.ensures c.rows_are_unique.ensures c.images_mount_to_one_tree.ensures.tree
