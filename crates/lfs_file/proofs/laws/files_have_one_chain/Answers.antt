use Rattle.std.proofs.Common.{arith}
use Rattle.lfs_file.proofs.WalkLemmas.{chain-empty, chain-found, found-chain, chain-is_one}
use Rattle.lfs_file.proofs.laws.files_have_one_chain.Goals as goal

pub returns : goal.returns
returns c = record {
  found = λ d head len blocks is chain. chain-found d head len blocks (omega (arith, is.geometry.size_fits.0)) chain;
  chain = λ d head len blocks is found. found-chain d head len blocks (omega (arith, is.geometry.size_fits.0)) found;
  one = λ d head len these those is this that. chain-is_one d head len these those (omega (arith, is.geometry.size_fits.0)) this that;
  empty = chain-empty;
}
