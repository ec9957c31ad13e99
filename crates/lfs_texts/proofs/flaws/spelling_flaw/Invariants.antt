-- What is wrong is what is wrong in the bytes that are left.
use Rattle.std.proofs.Common.{◌≡◌, ◌≤◌, ◌+◌, true, length}
use Rattle.lfs_texts.specs.Flaws.{spelling_flaw}
use Rattle.lfs_texts.proofs.flaws.spelling_flaw.Given as goal

abbrev pub invariant-loop-first : goal.invariant-loop-first
invariant-loop-first l = (spelling_flaw 1 true l.fn.line ≡ spelling_flaw l.column l.begins l.left)
    × (l.column + length l.left ≡ length l.fn.line + 1) × (1 ≤ l.column)

abbrev pub decreases-loop-first : goal.decreases-loop-first
decreases-loop-first l = length l.left
