-- A word more is taken.
use Rattle.lfs_texts.specs.Words.{words_of}
use Rattle.lfs_texts.proofs.WordLemmas.{word_taken}
use Rattle.lfs_texts.proofs.words.words_of.Goals as goal

pub loop-piece-preserved : goal.loop-piece-preserved
loop-piece-preserved c =
    word_taken (words_of c.args.line.now) c.loop-piece.piece-iterator c.next.new.self c.in-Some.piece.now c.loop-piece.words.items
    c.push.new.self.items c.in_ok-word_of.field-0 c.loop-piece.invariant c.in-Some.ensures.steps c.in_ok-word_of.ensures.word
    c.in_ok-push.ensures.items
