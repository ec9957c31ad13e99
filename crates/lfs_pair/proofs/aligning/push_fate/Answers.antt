-- The new ones before its own come, and the old entry stays; or it goes.
use Rattle.std.proofs.Common.{◌+◌, ap, ◌∙◌, arith, length, map}
use Rattle.std.proofs.lemmas.List.{map-append}
use Rattle.std.proofs.lemmas.Slice.{between_to_end}
use Rattle.lfs_pair.specs.DifferenceSeen.{fate_seen}
use Rattle.lfs_pair.proofs.FateSteps.{stays-pushed, goes-pushed}
use Rattle.lfs_pair.proofs.aligning.push_fate.Goals as goal

pub returns-then-count-entries : goal.returns-then-count-entries
returns-then-count-entries c more =
    stays-pushed (map fate_seen c.args.aligned.now.items) (map fate_seen c.push_coming.new.aligned.items)
    (map fate_seen c.push.new.self.items) c.args.entry.now c.index-entries-count.result more c.args.entries.now
    _ c.place_of-count.result
    c.place_of-count.ensures c.if-count-entries.true
    c.index-entries-count.is
    (between_to_end c.args.entries.now (c.place_of-count.result + 1) (length c.args.entries.now) (omega arith))
    c.in_ok-push_coming.ensures
    (ap (map fate_seen) c.in_ok-push.ensures.items ∙ map-append fate_seen c.push_coming.new.aligned.items _)

pub returns : goal.returns
returns c more =
    goes-pushed (map fate_seen c.args.aligned.now.items) (map fate_seen c.push-2.new.self.items) c.args.entry.now more c.args.entries.now
    (omega (arith, c.if-count-entries.false, c.place_of-count.ensures))
    (ap (map fate_seen) c.in_ok-push-2.ensures.items ∙ map-append fate_seen c.args.aligned.now.items _)
