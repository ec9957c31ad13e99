use Rattle.lfs_law.proofs.HeldFew.{held_have_few_entries}
use Rattle.lfs_law.proofs.laws.held_volumes_have_few_entries.Goals as goal

pub returns : goal.returns
returns c = held_have_few_entries c.both_sides_hold.ensures.links c.held_parts_have_few_entries.ensures
