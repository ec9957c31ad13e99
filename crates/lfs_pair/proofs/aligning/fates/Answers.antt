-- Each turn leaves fewer old entries; once none is left, the new ones come.
use Rattle.std.proofs.Common.{map, arith}
use Rattle.lfs_pair.specs.Difference.{fates}
use Rattle.lfs_pair.specs.DifferenceSeen.{fate_seen}
use Rattle.lfs_pair.proofs.FateSteps.{none-left}
use Rattle.lfs_pair.proofs.TurnLemmas.{turned}
use Rattle.lfs_pair.proofs.aligning.fates.Goals as goal

pub loop-entry-preserved : goal.loop-entry-preserved
loop-entry-preserved c =
    turned fates c.args.old.now c.loop-entry.entry-index c.entry-item.result c.loop-entry.left.now c.in_ok-left.left.now
    (map fate_seen c.loop-entry.aligned.items) (map fate_seen c.push_fate.new.aligned.items) (fates c.args.old.now c.args.new.now)
    c.loop-entry-test.true c.entry-item.is (c.in_ok-left.ensures _) c.loop-entry.invariant

pub returns : goal.returns
returns c =
    none-left c.args.old.now c.loop-entry.entry-index c.loop-entry.left.now (map fate_seen c.loop-entry.aligned.items)
    (map fate_seen c.push_coming.new.aligned.items) _ (omega (arith, c.loop-entry-test.false)) c.loop-entry.invariant
    c.in_ok-push_coming.ensures
