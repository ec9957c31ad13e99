use Rattle.lfs_change.proofs.LawLemmas.{bytes_are_denoted}
use Rattle.lfs_change.proofs.laws.changed_bytes_are_denoted.Goals as goal

pub returns : goal.returns
returns c = bytes_are_denoted c.runs_keep_histories.ensures c.steps_keep_size.ensures c.saved_histories_open.ensures.opens
