use Rattle.lfs_law.proofs.FewParts.{few_parts_change}
use Rattle.lfs_law.proofs.Needs.{need_is_the_same, need_is_exact}
use Rattle.lfs_law.proofs.laws.need_is_exact.Goals as goal

pub returns-clause-same : goal.returns-clause-same
returns-clause-same c = need_is_the_same c.entries_are_cut_greedily.ensures.weights

pub returns-clause-exact : goal.returns-clause-exact
returns-clause-exact c = need_is_exact c.entries_are_cut_greedily.ensures.weights

pub returns-clause-few : goal.returns-clause-few
returns-clause-few c = few_parts_change c.names_are_ordered.ensures
