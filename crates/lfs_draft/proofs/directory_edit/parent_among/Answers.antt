-- Behind all names the last part is parent.
use Rattle.std.proofs.Common.{◌-◌, length, refl}
use Rattle.lfs_draft.proofs.LastNames.{parent_is_last}
use Rattle.lfs_draft.proofs.directory_edit.parent_among.Goals as goal

pub returns-then-ends_before : goal.returns-then-ends_before
returns-then-ends_before c =
    parent_is_last c.names_are_ordered.ensures c.args.name.now c.args.parts.now c.index-parts-last.result (length c.args.parts.now - 1)
    c.requires.some refl c.index-parts-last.is c.requires.rise (c.ends_before.ensures c.if-ends_before.true)
