use Rattle.lfs_meta.proofs.RunLemmas.{runs_are_greedy, runs_behind_first, some_run, runs_join, runs_follow_weights}
use Rattle.lfs_fs.proofs.laws.entries_are_cut_greedily.Goals as goal

pub returns-clause-greedy : goal.returns-clause-greedy
returns-clause-greedy c = runs_are_greedy

pub returns-clause-behind : goal.returns-clause-behind
returns-clause-behind c = runs_behind_first

pub returns-clause-some : goal.returns-clause-some
returns-clause-some c = some_run

pub returns-clause-joined : goal.returns-clause-joined
returns-clause-joined c = runs_join

pub returns-clause-weights : goal.returns-clause-weights
returns-clause-weights c = runs_follow_weights

pub returns-clause-stored : goal.returns-clause-stored
returns-clause-stored c = runs_follow_weights
