use Rattle.lfs_fs.specs.Gathering.{part_entries}
use Rattle.lfs_fs.proofs.GatheringLemmas.{last_decides}
use Rattle.lfs_fs.proofs.following.comes_behind.Goals as goal

pub returns-in-Some : goal.returns-in-Some
returns-in-Some c = last_decides (part_entries c.args.parts.now) c.in-Some.last.now c.args.name.now c.comes_after.result
    c.in-Some.ensures.found c.requires c.comes_after.ensures
