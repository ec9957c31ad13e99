use Rattle.lfs_fs.specs.Entry.{is_named}
use Rattle.lfs_fs.proofs.FindLemmas.{found_next, missed_next}
use Rattle.lfs_fs.proofs.outline_part.named_in.Goals as goal

pub returns-in-Some : goal.returns-in-Some
returns-in-Some c =
    found_next (is_named c.args.name.now) c.args.parts.now c.loop-part.part-index c.part-item.result c.in-Some.entry.now
    c.loop-part-test.true c.part-item.is c.in-Some.ensures c.loop-part.invariant

pub loop-part-preserved : goal.loop-part-preserved
loop-part-preserved c =
    missed_next (is_named c.args.name.now) c.args.parts.now c.loop-part.part-index c.part-item.result c.loop-part-test.true c.part-item.is
    c.in_default.ensures c.loop-part.invariant
