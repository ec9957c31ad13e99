-- The entries of the parts after it are still to be put.
use Rattle.std.proofs.Common.{◌≡◌, ◌++◌, length}
use Rattle.std.specs.Prelude.{flat_map}
use Rattle.std.specs.Vec.Iter.{into_iter_items, into_iter_len}
use Rattle.lfs_settle.proofs.dropping.entries_of.Given as goal

abbrev pub invariant-each : goal.invariant-each
invariant-each l = record {
  counted : into_iter_len l.part-iterator ≡ length (into_iter_items l.part-iterator);
  left : l.entries.items ++ flat_map (λ p. p.1.entries) (into_iter_items l.part-iterator) ≡ flat_map (λ p. p.1.entries) l.fn.parts.items;
}
