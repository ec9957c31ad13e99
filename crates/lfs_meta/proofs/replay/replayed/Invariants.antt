use Rattle.lfs_meta.proofs.ReplayLemmas.{IsReplayedTo}
use Rattle.lfs_meta.proofs.replay.replayed.Given as goal

abbrev pub invariant-replay : goal.invariant-replay
invariant-replay l = IsReplayedTo l.fn.tags l.part l.tag-iterator
