use Rattle.lfs_meta.proofs.HeldCounts.{held_parts_few}
use Rattle.lfs_meta.proofs.held_laws.held_parts_have_few_entries.Goals as goal

pub returns : goal.returns
returns c = held_parts_few c.log_tags_are_few.ensures
