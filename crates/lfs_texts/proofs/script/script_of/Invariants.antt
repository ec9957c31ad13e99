-- The lines that were read are those before the ones that are left.
use Rattle.lfs_texts.proofs.ScriptLemmas.{HasRead}
use Rattle.lfs_texts.proofs.script.script_of.Given as goal

abbrev pub invariant-loop-line : goal.invariant-loop-line
invariant-loop-line l = HasRead l.fn.text l.number l.line-iterator l.lines.items
