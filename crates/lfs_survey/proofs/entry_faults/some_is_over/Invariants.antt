use Rattle.std.proofs.Common.{◌≤◌, length, ℕ, List, take}
use Rattle.std.specs.List.{All}
use Rattle.lfs_survey.proofs.entry_faults.some_is_over.Given as goal

abbrev pub invariant-each : goal.invariant-each
invariant-each l = All (λ (a : ℕ × List ℕ). length a.1 ≤ l.limit) (take l.attribute-index l.attributes)
