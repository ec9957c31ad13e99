-- The entries behind are still to be split.
use Rattle.std.proofs.Common.{◌≡◌, length, map}
use Rattle.std.specs.Vec.Iter.{into_iter_items, into_iter_len}
use Rattle.lfs_meta.specs.Runs.{runs_after}
use Rattle.lfs_fs.specs.Weight.{weight}
use Rattle.lfs_cut.specs.Splitting.{IsSplitTo}
use Rattle.lfs_cut.proofs.splitting.split.Given as goal

abbrev pub invariant-each : goal.invariant-each
invariant-each l = record {
  counted : into_iter_len l.entry-iterator ≡ length (into_iter_items l.entry-iterator);
  split : IsSplitTo (runs_after weight l.room l.fn.taken l.fn.len l.fn.entries.items) l.room
      (map (λ run. run.items) l.splitting.done.items) l.splitting.run.items
      l.splitting.taken l.splitting.len (into_iter_items l.entry-iterator);
}
