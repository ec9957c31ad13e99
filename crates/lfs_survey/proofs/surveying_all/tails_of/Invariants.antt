use Rattle.std.proofs.Common.{◌≡◌, take}
use Rattle.std.specs.Prelude.{flat_map}
use Rattle.lfs_survey.specs.Survey.{found_tail}
use Rattle.lfs_survey.proofs.surveying_all.tails_of.Given as goal

abbrev pub invariant-each : goal.invariant-each
invariant-each l = l.tails.items ≡ flat_map found_tail (take l.found-index l.area.found.items)
