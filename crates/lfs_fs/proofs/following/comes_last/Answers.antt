use Rattle.std.proofs.Common.{◌++◌, ap, sym, ◌∙◌}
use Rattle.std.specs.Option.{option_copied}
use Rattle.lfs_fs.specs.Gathering.{part_entries}
use Rattle.lfs_fs.proofs.GatheringLemmas.{last_decides, ends_with, ends_behind}
use Rattle.lfs_fs.proofs.following.comes_last.Goals as goal

pub returns-in-Some : goal.returns-in-Some
returns-in-Some c =
    let before = part_entries c.args.parts.now in
    let ends = ends_behind before c.args.entries.now c.in-Some.last.now
    (ends_with c.args.entries.now c.in-Some.last.now (sym c.last.ensures.value ∙ ap option_copied c.in-Some.is)) in
    last_decides (before ++ c.args.entries.now) c.in-Some.last.now c.args.name.now c.comes_after.result ends c.requires
    c.comes_after.ensures
