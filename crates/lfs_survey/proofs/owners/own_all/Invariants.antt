use Rattle.std.proofs.Common.{take}
use Rattle.lfs_survey.specs.Owned.{AreNoted}
use Rattle.lfs_survey.proofs.owners.own_all.Given as goal

abbrev pub invariant-each : goal.invariant-each
invariant-each l = AreNoted l.survey.areas.items (take l.place-index l.parts) l.places
