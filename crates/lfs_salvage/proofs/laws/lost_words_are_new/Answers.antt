-- It asks for one tilde more than any name.
use Rattle.lfs_salvage.proofs.LostWordLemmas.{word_is_new}
use Rattle.lfs_salvage.proofs.laws.lost_words_are_new.Goals as goal

pub returns : goal.returns
returns c = word_is_new
