use Rattle.std.proofs.Common.{◌≡◌, ◌++◌, map}
use Rattle.std.specs.List.{range_with_len}
use Rattle.lfs_survey.proofs.all_places.add_entry_places.Given as goal

abbrev pub invariant-loop-entry : goal.invariant-loop-entry
invariant-loop-entry l = l.places.items ≡ l.fn.places.items ++ map (λ entry. record { at = l.at; entry = entry }) (range_with_len 0 l.entry)
