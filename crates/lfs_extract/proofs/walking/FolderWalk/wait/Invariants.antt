use Rattle.std.proofs.Common.{◌≡◌, ◌++◌, map, reverse, string_bytes, length}
use Rattle.lfs_extract.specs.PathBelow.{name_in}
use Rattle.lfs_extract.proofs.walking.FolderWalk.wait.Given as goal

abbrev pub invariant-loop-name : goal.invariant-loop-name
invariant-loop-name l = record {
  waits : map (λ s. name_in l.folder (string_bytes s)) l.names.items ++ map (λ s. string_bytes s) (reverse l.self.waiting.items)
      ≡ map (λ s. name_in l.folder (string_bytes s)) l.initial.names.items ++ map (λ s. string_bytes s) (reverse l.initial.self.waiting.items);
  rows : l.self.rows ≡ l.initial.self.rows;
}

abbrev pub decreases-loop-name : goal.decreases-loop-name
decreases-loop-name l = length l.names.items
