use Rattle.std.proofs.Common.{◌≡◌, ℕ, List, map, string_bytes}
use Rattle.std.specs.BTreeSet.{IsOrdered, contains_text}
use Rattle.std.specs.List.{list_any}
use Rattle.std.specs.Str.{bytes_eq}
use Rattle.std.specs.String.{string_cmp}
use Rattle.lfs_host.specs.MemoryTree.{names_through}
use Rattle.lfs_host.proofs.memory_tree.names_in.Given as goal

abbrev pub invariant-loop-file : goal.invariant-loop-file
invariant-loop-file l = record {
  has : (q : List ℕ) → contains_text l.names q ≡ list_any (bytes_eq q) (names_through l.folder (map (λ k. string_bytes k.now) l.yielded));
  ordered : IsOrdered string_cmp l.names;
}
