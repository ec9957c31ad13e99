use Rattle.std.proofs.Common.{take}
use Rattle.lfs_survey.specs.PairKeys.{AddsKeys}
use Rattle.lfs_survey.proofs.unnamed_place.add_keys.Given as goal

abbrev pub invariant-each : goal.invariant-each
invariant-each l = AddsKeys l.fn.keys l.keys (take l.pair-index l.pairs)
