-- What is in a folder below is below.
use Rattle.std.proofs.Common.{arith}
use Rattle.lfs_salvage.specs.Word.{numbered_word, host_word}
use Rattle.lfs_salvage.proofs.NumberLemmas.{numbered_is_host}
use Rattle.lfs_salvage.proofs.WordLemmas.{below_in}
use Rattle.lfs_salvage.proofs.words.numbered_below.Goals as goal

pub returns-in_err-word-clause-below : goal.returns-in_err-word-clause-below
returns-in_err-word-clause-below c = λ top above.
    below_in top c.args.folder.now (numbered_word (host_word c.args.named.name.now) c.args.named.block c.args.named.index) above
    (numbered_is_host (host_word c.args.named.name.now) c.args.named.block c.args.named.index c.word.ensures.host (omega arith) (omega arith))

pub returns-clause-below : goal.returns-clause-below
returns-clause-below c = λ top above.
    below_in top c.args.folder.now (numbered_word (host_word c.args.named.name.now) c.args.named.block c.args.named.index) above
    (numbered_is_host (host_word c.args.named.name.now) c.args.named.block c.args.named.index c.word.ensures.host (omega arith) (omega arith))
