use Rattle.std.proofs.Common.{◌≡◌, false, map}
use Rattle.lfs_fs.specs.Listed.{rows_after, rows_listed}
use Rattle.lfs_listing.specs.Below.{digests_at, names}
use Rattle.lfs_listing.specs.Comparing.{AreComplete}
use Rattle.lfs_listing.proofs.BufferLemmas.{IsUnderWay}
use Rattle.lfs_listing.proofs.digesting.send_rows.Given as goal

-- the lines of the rows so far have gone out or wait, and those of the rows that are left are to come, which can be read
abbrev pub invariant-loop-row : goal.invariant-loop-row
invariant-loop-row g l = record {
  under_way : IsUnderWay (g.S.Sink.sent l.initial.out) (g.S.Sink.sent l.out) l.text.items
      (digests_at l.fn.form (g.A.Blocks.disk l.fn.disk) (names l.fn.at) (rows_after (map (λ n. n.now) l.path.items) l.row-iterator))
      (digests_at l.fn.form (g.A.Blocks.disk l.fn.disk) (names l.fn.at) (rows_listed l.fn.rows));
  complete : AreComplete (g.A.Blocks.disk l.fn.disk) (rows_after (map (λ n. n.now) l.path.items) l.row-iterator);
  works : g.S.Sink.failed l.out ≡ false;
  kept : g.S.Sink.kept l.out ≡ g.S.Sink.kept l.initial.out;
}
