-- What is no text is no number.
use Rattle.lfs_texts.proofs.NumberLemmas.{number_is_text}
use Rattle.lfs_texts.proofs.number.number_of.Goals as goal

pub returns-in-Err-clause-none : goal.returns-in-Err-clause-none
returns-in-Err-clause-none c = λ number spells. c.in-Err.ensures.cases.0 (number_is_text c.args.word.now number spells)
