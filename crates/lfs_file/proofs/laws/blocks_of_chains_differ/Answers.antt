use Rattle.std.proofs.Common.{arith}
use Rattle.lfs_file.proofs.WalkLemmas.{found-chain, chain-fits}
use Rattle.lfs_file.proofs.laws.blocks_of_chains_differ.Goals as goal

pub returns : goal.returns
returns c = record {
  differ = λ d head len blocks is found. let chain = found-chain d head len blocks (omega (arith, is.geometry.size_fits.0)) found in
      (chain.below, chain.apart);
  fit = chain-fits;
}
