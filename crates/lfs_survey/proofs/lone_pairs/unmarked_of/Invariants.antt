use Rattle.std.proofs.Common.{◌≡◌, take}
use Rattle.lfs_survey.specs.Lone.{unmarked_pairs}
use Rattle.lfs_survey.proofs.lone_pairs.unmarked_of.Given as goal

abbrev pub invariant-each : goal.invariant-each
invariant-each l = l.left.items ≡ unmarked_pairs l.table (take l.pair-index l.pairs)
