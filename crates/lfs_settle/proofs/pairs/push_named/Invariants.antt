-- The pairs of the entries so far.
use Rattle.std.proofs.Common.{◌≡◌, ◌++◌, take}
use Rattle.std.specs.Prelude.{flat_map, option_to_list}
use Rattle.lfs_settle.specs.InStep.{pair_named}
use Rattle.lfs_settle.proofs.pairs.push_named.Given as goal

abbrev pub invariant-loop-entry : goal.invariant-loop-entry
invariant-loop-entry l =
    l.named.items ≡ l.fn.named.items ++ flat_map (λ e. option_to_list (pair_named e.body)) (take l.entry-index l.entries)
