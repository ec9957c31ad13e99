use Rattle.lfs_listing.proofs.TreesCompared.{differences_show_trees}
use Rattle.lfs_listing.proofs.laws.differences_show_trees.Goals as goal

pub returns : goal.returns
returns c = differences_show_trees c.paths_are_ordered.ensures c.rows_are_unique.ensures c.rows_show_the_tree.ensures
    c.images_mount_to_one_tree.ensures.tree
