-- The first part has the name, or a later one, if any.
use Rattle.std.proofs.Common.{sym, ◌∙◌, arith}
use Rattle.lfs_draft.proofs.OneNamed.{count_parts}
use Rattle.lfs_draft.proofs.UnlinkedParts.{first_left}
use Rattle.lfs_draft.proofs.directory_edit.unlink_parts.Goals as goal

pub returns-then-has_name : goal.returns-then-has_name
returns-then-has_name c =
    first_left c.args.name.now c.args.first.now c.take_out_of.new.part c.args.more.now.items (sym c.has_name.ensures ∙ c.if-has_name.true)
    c.requires c.take_out_of.ensures

pub unlink_later-requires-clause-once : goal.unlink_later-requires-clause-once
unlink_later-requires-clause-once c = omega (arith, c.requires, count_parts c.args.name.now c.args.first.now c.args.more.now.items)
