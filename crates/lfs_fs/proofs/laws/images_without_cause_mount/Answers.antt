use Rattle.lfs_fs.proofs.MountsThereLemmas.{without_cause_mount}
use Rattle.lfs_fs.proofs.laws.images_without_cause_mount.Goals as goal

pub returns : goal.returns
returns c =
    without_cause_mount c.pairs_without_a_part_have_a_cause.ensures c.held_parts_are_complete.ensures c.names_are_decided.ensures
    c.files_have_one_chain.ensures.chain c.contents_have_their_length.ensures c.blocks_of_chains_differ.ensures.differ
