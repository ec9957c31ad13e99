-- What has a word in a folder below is below.
use Rattle.lfs_salvage.proofs.words.word_below.Goals as goal

pub returns-in-Own-clause-below : goal.returns-in-Own-clause-below
returns-in-Own-clause-below c = rw c.in-Own.is c.name_below.ensures.below

pub returns-in-Numbered-clause-below : goal.returns-in-Numbered-clause-below
returns-in-Numbered-clause-below c = rw c.in-Numbered.is c.numbered_below.ensures.below

pub returns-in-Alone-clause-below : goal.returns-in-Alone-clause-below
returns-in-Alone-clause-below c = rw c.in-Alone.is c.numbers_below.ensures.below
