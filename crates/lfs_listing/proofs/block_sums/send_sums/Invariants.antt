use Rattle.std.proofs.Common.{◌≡◌, ◌++◌, None, false, map}
use Rattle.lfs_fs.specs.Listed.{rows_after, rows_listed}
use Rattle.lfs_listing.specs.BlockSums.{sum_line}
use Rattle.lfs_listing.specs.Summing.{sum_lines}
use Rattle.lfs_listing.proofs.BufferLemmas.{IsUnderWay}
use Rattle.lfs_listing.proofs.block_sums.send_sums.Given as goal

-- the lines of the rows so far have gone out or wait, and those of the rows that are left are to come
abbrev pub invariant-loop-row : goal.invariant-loop-row
invariant-loop-row g l = record {
  under_way : IsUnderWay (g.S.Sink.sent l.initial.out) (g.S.Sink.sent l.out) l.text.items
      (sum_lines l.fn.form (rows_after (map (λ n. n.now) l.path.items) l.row-iterator) l.left ++ sum_line l.fn.form None l.untaken)
      (sum_lines l.fn.form (rows_listed l.fn.rows) l.fn.sums ++ sum_line l.fn.form None l.untaken);
  works : g.S.Sink.failed l.out ≡ false;
  kept : g.S.Sink.kept l.out ≡ g.S.Sink.kept l.initial.out;
}
