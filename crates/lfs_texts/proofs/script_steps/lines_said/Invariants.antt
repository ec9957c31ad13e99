-- What the lines so far ask for was taken.
use Rattle.std.proofs.Common.{drop}
use Rattle.lfs_texts.proofs.SaidLemmas.{HasTaken}
use Rattle.lfs_texts.proofs.script_steps.lines_said.Given as goal

abbrev pub invariant-each : goal.invariant-each
invariant-each l = HasTaken l.terms l.lines (drop l.line-index l.lines) l.said.items
