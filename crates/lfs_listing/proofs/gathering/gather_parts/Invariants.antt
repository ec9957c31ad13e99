use Rattle.std.proofs.Common.{length, map}
use Rattle.lfs_fs.specs.Listed.{rows_after}
use Rattle.lfs_listing.specs.Using.{row_part}
use Rattle.lfs_listing.proofs.GatheringLemmas.{AreGiven, AreMade}
use Rattle.lfs_listing.proofs.gathering.gather_parts.Given as goal

-- with the rows that are left the users are those of all rows, and what is said of each is there
abbrev pub invariant-loop-row : goal.invariant-loop-row
invariant-loop-row l = record {
  users : AreGiven l.mounted.outline l.mounted.rows (length l.parts) l.users (rows_after (map (λ n. n.now) l.path.items) l.row-iterator);
  parts : AreMade (row_part l.fn.form) l.mounted.rows l.parts (rows_after (map (λ n. n.now) l.path.items) l.row-iterator);
}
