use Rattle.lfs_arguments.proofs.operations.most_of.Goals as goal

pub returns : goal.returns
returns c = (c.most_if_said.result, c.most_if_said.ensures, c.unwrap_or.ensures)
