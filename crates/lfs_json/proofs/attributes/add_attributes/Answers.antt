use Rattle.std.proofs.Common.{sym, ◌∙◌}
use Rattle.lfs_json.proofs.AttributeLemmas.{attributes_added}
use Rattle.lfs_json.proofs.attributes.add_attributes.Goals as goal

pub returns : goal.returns
returns c = attributes_added c.args.line.now c.key.new.self c.begin_array.new.self c.add_each.new.line c.end_array.new.self c.args.attributes.now
    (sym c.is_empty.ensures ∙ c.if-is_empty.false)
    (record { before = c.key.ensures.room.0; tokens = c.in_ok-key.ensures.ok })
    (record { before = c.begin_array.ensures.room.0; tokens = c.in_ok-begin_array.ensures.ok })
    c.in_ok-add_each.ensures
    (record { before = c.end_array.ensures.room.0; tokens = c.in_ok-end_array.ensures.ok })
