use Rattle.std.proofs.Common.{◌≡◌, ◌<◌, ◌≤◌, ℕ, drop, false, flat_map, length, true}
use Rattle.lfs_listing.specs.BlockMap.{runs_from}
use Rattle.lfs_listing.specs.Runs.{run_goes_on}
use Rattle.lfs_listing.specs.Using.{part_of_user, run_line}
use Rattle.lfs_listing.proofs.BufferLemmas.{IsUnderWay}
use Rattle.lfs_listing.proofs.runs.send_runs.Given as goal

-- the lines of the runs so far have gone out or wait, and a run goes on since its first block
abbrev pub invariant-loop-block : goal.invariant-loop-block
invariant-loop-block g l = record {
  under_way : IsUnderWay (g.S.Sink.sent l.initial.out) (g.S.Sink.sent l.out) l.text.items
      (flat_map (run_line l.form (part_of_user l.form l.parts)) (runs_from l.first (drop l.first l.users))) (flat_map (run_line l.form (part_of_user l.form l.parts)) (runs_from 0 l.users));
  before : l.first ≤ l.block;
  more : l.first < l.block → l.block < length l.users;
  on : (k : ℕ) → l.first ≤ k → k < l.block → run_goes_on l.users k ≡ true;
  works : g.S.Sink.failed l.out ≡ false;
  kept : g.S.Sink.kept l.out ≡ g.S.Sink.kept l.initial.out;
}
