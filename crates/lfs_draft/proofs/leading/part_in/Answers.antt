-- The last part decides where the name is in it, or comes behind it.
use Rattle.std.proofs.Common.{sym, ◌∙◌}
use Rattle.lfs_fs.specs.Directory.{parts}
use Rattle.lfs_draft.proofs.LastNames.{last_part_has, no_part_has}
use Rattle.lfs_draft.proofs.leading.part_in.Goals as goal

pub returns-then-comes_last : goal.returns-then-comes_last
returns-then-comes_last c =
    sym (no_part_has c.names_are_ordered.ensures c.args.name.now (parts c.args.directory.now) (c.comes_last.ensures c.if-comes_last.true))

pub returns-then-has_name : goal.returns-then-has_name
returns-then-has_name c =
    last_part_has c.names_are_ordered.ensures c.args.name.now c.args.directory.now c.last_part-last.result.now c.last_part-last.ensures c.requires
    (sym c.has_name.ensures ∙ c.if-has_name.true)
