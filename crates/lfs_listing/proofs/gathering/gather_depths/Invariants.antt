use Rattle.std.proofs.Common.{length, map}
use Rattle.lfs_fs.specs.Listed.{rows_after}
use Rattle.lfs_listing.proofs.GatheringLemmas.{AreGiven, AreMade}
use Rattle.lfs_listing.proofs.gathering.gather_depths.Given as goal

-- with the rows that are left the users are those of all rows, and there is the length of each path
abbrev pub invariant-loop-row : goal.invariant-loop-row
invariant-loop-row l = record {
  users : AreGiven l.mounted.outline l.mounted.rows (length l.depths.items) l.users (rows_after (map (λ n. n.now) l.path.items) l.row-iterator);
  depths : AreMade (λ r. length r.path) l.mounted.rows l.depths.items (rows_after (map (λ n. n.now) l.path.items) l.row-iterator);
}
