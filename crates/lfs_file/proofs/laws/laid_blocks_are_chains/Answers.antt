use Rattle.lfs_file.proofs.LaidLemmas.{laid-chain, laid-content, laid-found}
use Rattle.lfs_file.proofs.laws.laid_blocks_are_chains.Goals as goal

pub returns : goal.returns
returns c = record { chain = laid-chain; found = laid-found; content = laid-content }
