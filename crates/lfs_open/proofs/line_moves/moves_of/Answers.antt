-- One line more is said.
use Rattle.std.proofs.Common.{◌∙◌, ℕ, List, [], ap, get_or}
use Rattle.lfs_history.specs.Filling.{bytes_given}
use Rattle.lfs_history.specs.Meaning.{step_by}
use Rattle.lfs_texts.specs.declared.script_line.ScriptLine.{ScriptLine}
use Rattle.lfs_open.specs.LineMoves.{move_said}
use Rattle.lfs_open.proofs.LineLemmas.{said_more}
use Rattle.lfs_open.proofs.line_moves.moves_of.Goals as goal

pub each-preserved : goal.each-preserved
each-preserved c =
    let lines = c.args.lines.now in
    let read = c.args.read.now in
    let i = c.each.at in
    let line = c.index-lines-at.result in
    let said = c.filled.ensures
    ∙ ap (λ (given : List ℕ). step_by (bytes_given given) line.step) c.of_line.ensures
    ∙ ap (λ (l : ScriptLine). move_said l (get_or read i [])) c.index-lines-at.is in
    said_more lines read i line [] c.each.moves.items c.push.new.self.items c.filled.result c.requires c.each-test.true c.each.invariant
    c.in_ok-push.ensures.items said
