use Rattle.lfs_meta.proofs.CompleteLemmas.{complete_part-raw}
use Rattle.lfs_pair.proofs.WrittenLemmas.{written-replays}
use Rattle.lfs_pair.proofs.laws.written_parts_replay.Goals as goal

pub returns-clause-replay : goal.returns-clause-replay
returns-clause-replay c = written-replays

pub returns-clause-complete : goal.returns-clause-complete
returns-clause-complete c = complete_part-raw
