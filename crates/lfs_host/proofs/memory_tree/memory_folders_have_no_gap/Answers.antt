use Rattle.lfs_host.proofs.MemoryTreeLemmas.{no_gap}
use Rattle.lfs_host.proofs.memory_tree.memory_folders_have_no_gap.Goals as goal

pub returns : goal.returns
returns c = no_gap c.args._files.now
