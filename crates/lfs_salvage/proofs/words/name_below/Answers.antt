-- What is in a folder below is below.
use Rattle.lfs_salvage.specs.Word.{host_word}
use Rattle.lfs_salvage.proofs.WordLemmas.{below_in}
use Rattle.lfs_salvage.proofs.words.name_below.Goals as goal

pub returns-in_err-word-clause-below : goal.returns-in_err-word-clause-below
returns-in_err-word-clause-below c = λ top above. below_in top c.args.folder.now (host_word c.args.name.now) above c.word.ensures.host

pub returns-clause-below : goal.returns-clause-below
returns-clause-below c = λ top above. below_in top c.args.folder.now (host_word c.args.name.now) above c.word.ensures.host
