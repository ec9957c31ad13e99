-- The directories after are still to be put after the thread.
use Rattle.std.proofs.Common.{◌≡◌, ◌+◌, ◌++◌, [], drop, length, map}
use Rattle.std.specs.Prelude.{flat_map, not}
use Rattle.std.specs.Vec.Iter.{into_iter_items, into_iter_len}
use Rattle.lfs_settle.specs.Ended.{as_dropped}
use Rattle.lfs_settle.specs.Reaching.{flagged}
use Rattle.lfs_settle.specs.Threading.{put_all_after}
use Rattle.lfs_settle.proofs.threading.threaded.Given as goal

abbrev pub invariant-each : goal.invariant-each
invariant-each l = record {
  counted : into_iter_len l.group-iterator ≡ length (into_iter_items l.group-iterator);
  numbered : l.number + length (into_iter_items l.group-iterator) ≡ length l.flags;
  left : put_all_after l.thread.items (flagged (drop l.number l.flags) (map (λ g. g.items) (into_iter_items l.group-iterator)))
      ≡ put_all_after [] (flagged l.flags (map (λ g. g.items) l.fn.groups.items));
  dropped : l.dropped.items
      ++ flat_map as_dropped (flagged (map not (drop l.number l.flags)) (map (λ g. g.items) (into_iter_items l.group-iterator)))
      ≡ flat_map as_dropped (flagged (map not l.flags) (map (λ g. g.items) l.fn.groups.items));
}
