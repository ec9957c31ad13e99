use Rattle.std.proofs.Common.{List, subst}
use Rattle.std.proofs.lemmas.List.{take_all}
use Rattle.lfs_fs.specs.Directory.{Directory}
use Rattle.lfs_listing.specs.DirectoryNumbers.{AreNumbers}
use Rattle.lfs_listing.proofs.DirectoryLemmas.{none_noted, noted_more}
use Rattle.lfs_listing.proofs.directory_numbers.note_each.Goals as goal

pub loop-number-init : goal.loop-number-init
loop-number-init c = none_noted c.args.numbers.now c.requires

pub loop-number-preserved : goal.loop-number-preserved
loop-number-preserved c =
    noted_more c.args.directories.now c.loop-number.number c.index-directories-number.result c.loop-number.numbers c.note.new.numbers
    c.loop-number-test.true c.index-directories-number.is c.note.ensures c.loop-number.invariant

pub returns : goal.returns
returns c = subst (λ (ds : List Directory). AreNumbers ds c.loop-number.numbers)
    (take_all c.loop-number.number c.args.directories.now c.loop-number-test.false) c.loop-number.invariant
