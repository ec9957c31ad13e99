use Rattle.std.proofs.Common.{◌≡◌, []}
use Rattle.lfs_fs.specs.Listed.{rows_after, rows_listed}
use Rattle.lfs_listing.specs.Inlined.{longest, longest_or}
use Rattle.lfs_listing.proofs.inlined.longest_inline.Given as goal

-- the longest so far and the rows that are left give the longest of all
abbrev pub invariant-loop-row : goal.invariant-loop-row
invariant-loop-row l = longest_or l.longest (rows_after [] l.row-iterator) ≡ longest (rows_listed l.fn.rows)
