-- A file of no bytes has the chain of no blocks, and each other one the chain that it is saved of.
use Rattle.lfs_salvage.proofs.ShownLemmas.{saved_shown}
use Rattle.lfs_salvage.proofs.laws.saved_files_are_shown.Goals as goal

pub returns : goal.returns
returns c = saved_shown c.files_have_one_chain.ensures.empty
