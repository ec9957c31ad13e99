-- What was taken stands before what is left.
use Rattle.std.proofs.Common.{◌≡◌, Some, length}
use Rattle.std.specs.Fmt.{option_append}
use Rattle.lfs_texts.specs.Words.{word_bytes}
use Rattle.lfs_texts.proofs.escapes.word_of.Given as goal

abbrev pub invariant-loop-first : goal.invariant-loop-first
invariant-loop-first l = word_bytes l.text ≡ option_append (Some l.word.items) (word_bytes l.left)

abbrev pub decreases-loop-first : goal.decreases-loop-first
decreases-loop-first l = length l.left
