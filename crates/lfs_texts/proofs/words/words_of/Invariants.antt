-- The words that were taken stand before what is left.
use Rattle.std.proofs.Common.{◌≡◌, map}
use Rattle.lfs_texts.specs.Words.{all_words, words_of}
use Rattle.lfs_texts.proofs.WordLemmas.{words_before}
use Rattle.lfs_texts.proofs.words.words_of.Given as goal

abbrev pub invariant-loop-piece : goal.invariant-loop-piece
invariant-loop-piece l = words_of l.fn.line ≡ words_before (map (λ w. w.items) l.words.items) (all_words l.piece-iterator)
