use Rattle.lfs_meta.proofs.HeldPartLemmas.{held_parts}
use Rattle.lfs_meta.proofs.held_laws.held_parts_are_complete.Goals as goal

pub returns : goal.returns
returns c = held_parts c.blocks_have_a_log.ensures c.log_tags_are_items.ensures
