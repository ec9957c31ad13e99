use Rattle.lfs_step.proofs.TreesChanged.{equal_trees_stay, trees_are_changed}
use Rattle.lfs_step.proofs.laws.trees_are_changed_as_said.Goals as goal

pub returns-clause-said : goal.returns-clause-said
returns-clause-said c =
    trees_are_changed c.texts_spell_one_path.ensures c.images_mount_to_one_tree.ensures.volume c.images_mount_to_one_tree.ensures.tree
    c.paths_are_ordered.ensures c.mounted_rows_are_held.ensures c.texts_spell_their_commands.ensures
    c.bytes_are_changed_together.ensures.equations

pub returns-clause-equal : goal.returns-clause-equal
returns-clause-equal c =
    equal_trees_stay c.texts_spell_one_path.ensures c.images_mount_to_one_tree.ensures.volume c.images_mount_to_one_tree.ensures.tree
    c.paths_are_ordered.ensures c.mounted_rows_are_held.ensures
