-- The runs behind go to the pairs behind.
use Rattle.std.proofs.Common.{◌≡◌, ◌++◌, length, map}
use Rattle.std.specs.Vec.Iter.{into_iter_items, into_iter_len}
use Rattle.lfs_command.specs.Cut.{more_parts}
use Rattle.lfs_cut.proofs.cutting.new_parts.Given as goal

abbrev pub invariant-each : goal.invariant-each
invariant-each l = record {
  counted : into_iter_len l.entries-iterator ≡ length (into_iter_items l.entries-iterator);
  made : l.parts.items ++ more_parts l.left (map (λ run. run.items) (into_iter_items l.entries-iterator))
      ≡ more_parts l.pairs (map (λ run. run.items) l.fn.runs.items);
}
