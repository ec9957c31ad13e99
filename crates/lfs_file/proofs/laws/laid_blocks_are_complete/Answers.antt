use Rattle.lfs_file.proofs.LaidByteLemmas.{laid-bytes}
use Rattle.lfs_file.proofs.LaidLemmas.{laid-complete_blocks, length-laid}
use Rattle.lfs_file.proofs.laws.laid_blocks_are_complete.Goals as goal

pub returns : goal.returns
returns c = record { many = length-laid; complete = laid-complete_blocks; bytes = laid-bytes }
