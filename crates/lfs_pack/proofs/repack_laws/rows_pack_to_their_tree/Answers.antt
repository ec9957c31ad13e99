use Rattle.lfs_pack.proofs.RowsPackable.{rows_are_packable}
use Rattle.lfs_pack.proofs.TreePacked as tree
use Rattle.lfs_pack.proofs.repack_laws.rows_pack_to_their_tree.Goals as goal

pub returns-clause-tree : goal.returns-clause-tree
returns-clause-tree c = tree.rows_pack_to_their_tree c.rows_show_the_tree.ensures

pub returns-clause-held : goal.returns-clause-held
returns-clause-held c = tree.packed_images_hold_the_tree c.rows_show_the_tree.ensures

pub returns-clause-packable : goal.returns-clause-packable
returns-clause-packable c = rows_are_packable c.outlines_are_sound.ensures
