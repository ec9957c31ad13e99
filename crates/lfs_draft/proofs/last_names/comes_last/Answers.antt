-- The end of rising names decides for all of them.
use Rattle.lfs_draft.proofs.LastNames.{directory_before}
use Rattle.lfs_draft.proofs.last_names.comes_last.Goals as goal

pub returns : goal.returns
returns c so =
    directory_before c.names_are_ordered.ensures c.args.name.now c.args.directory.now c.last_part.result.now c.last_part.ensures c.requires
    (c.ends_before.ensures so)
