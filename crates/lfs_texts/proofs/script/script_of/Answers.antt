-- Lines are read one after the other, up to the first that has no words.
use Rattle.std.proofs.Common.{◌∙◌}
use Rattle.lfs_texts.proofs.ScriptLemmas.{line_read, none_read}
use Rattle.lfs_texts.proofs.script.script_of.Goals as goal

pub loop-line-preserved : goal.loop-line-preserved
loop-line-preserved c =
    line_read c.args.text.now c.loop-line.number c.loop-line.line-iterator c.next.new.self c.in-Some.line.now c.loop-line.lines.items
    c.take_line.new.lines.items c.loop-line.invariant c.in-Some.ensures.steps c.in_default.ensures.taken

pub loop-line-init : goal.loop-line-init
loop-line-init c =
    none_read c.args.text.now c.into_iter-line-iterator.result c.new-lines.result.items
    (c.into_iter-line-iterator.ensures.into_iter_gives ∙ c.lines-line-items.ensures.value) c.new-lines.ensures.items
