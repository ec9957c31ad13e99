-- What is in a folder below is below.
use Rattle.std.proofs.Common.{arith}
use Rattle.lfs_salvage.specs.Word.{numbers}
use Rattle.lfs_salvage.proofs.NumberLemmas.{numbers_are_host}
use Rattle.lfs_salvage.proofs.WordLemmas.{below_in}
use Rattle.lfs_salvage.proofs.words.numbers_below.Goals as goal

pub returns-clause-below : goal.returns-clause-below
returns-clause-below c = λ top above.
    below_in top c.args.folder.now (numbers c.args.named.block c.args.named.index) above
    (numbers_are_host c.args.named.block c.args.named.index (omega arith) (omega arith))
