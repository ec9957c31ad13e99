-- The mark that is found is the one in the bytes that are left.
use Rattle.std.proofs.Common.{◌≡◌, ◌+◌, true, length}
use Rattle.lfs_texts.specs.Flaws.{stray_mark}
use Rattle.lfs_texts.proofs.flaws.stray_mark.Given as goal

abbrev pub invariant-loop-first : goal.invariant-loop-first
invariant-loop-first l = (stray_mark 1 true l.fn.line ≡ stray_mark l.column l.begins l.left)
    × (l.column + length l.left ≡ length l.fn.line + 1)

abbrev pub decreases-loop-first : goal.decreases-loop-first
decreases-loop-first l = length l.left
