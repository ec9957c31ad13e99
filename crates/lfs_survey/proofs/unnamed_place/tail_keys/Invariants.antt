use Rattle.std.proofs.Common.{take}
use Rattle.lfs_survey.specs.PairKeys.{HasKeys}
use Rattle.lfs_survey.specs.Survey.{tails_behind}
use Rattle.lfs_survey.proofs.unnamed_place.tail_keys.Given as goal

abbrev pub invariant-each : goal.invariant-each
invariant-each l = HasKeys l.keys (tails_behind (take l.area-index l.areas))
