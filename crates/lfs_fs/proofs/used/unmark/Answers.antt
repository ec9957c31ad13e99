-- The block is one of the table's.
use Rattle.lfs_fs.proofs.UsedLemmas.{marked_there, unmarked_one}
use Rattle.lfs_fs.proofs.used.unmark.Goals as goal

pub bounds-used-block : goal.bounds-used-block
bounds-used-block c = (marked_there c.args.used.now c.args.block c.requires).0

pub returns : goal.returns
returns c =
    let there = marked_there c.args.used.now c.args.block c.requires in
    unmarked_one c.args.used.now c.args.block there.0 there.1
