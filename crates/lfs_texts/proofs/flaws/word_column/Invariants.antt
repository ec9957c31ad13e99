-- The column is the one of what is left of the place in the bytes that are left.
use Rattle.std.proofs.Common.{◌≡◌, ◌+◌, length}
use Rattle.lfs_texts.specs.Flaws.{word_column}
use Rattle.lfs_texts.proofs.flaws.word_column.Given as goal

abbrev pub invariant-loop-first : goal.invariant-loop-first
invariant-loop-first l = (word_column 1 l.fn.place l.fn.line ≡ word_column l.column l.place l.left)
    × (l.column + length l.left ≡ length l.fn.line + 1)

abbrev pub decreases-loop-first : goal.decreases-loop-first
decreases-loop-first l = length l.left
