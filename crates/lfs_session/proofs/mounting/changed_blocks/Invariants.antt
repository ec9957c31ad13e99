use Rattle.std.proofs.Common.{◌≡◌, take}
use Rattle.lfs_law.specs.WrittenLinks.{changed_blocks}
use Rattle.lfs_session.proofs.mounting.changed_blocks.Given as goal

abbrev pub invariant-each : goal.invariant-each
invariant-each l = l.numbers.items ≡ changed_blocks (take l.record-index l.records)
