use Rattle.std.proofs.Common.{arith}
use Rattle.lfs_file.proofs.ContentLemmas.{content-stays}
use Rattle.lfs_file.proofs.WalkLemmas.{chain-stays, found-stays}
use Rattle.lfs_file.proofs.laws.chains_stay_on_their_blocks.Goals as goal

pub returns : goal.returns
returns c = record {
  chain = chain-stays;
  found = λ d e head len blocks is agree found. found-stays d e head len blocks (omega (arith, is.geometry.size_fits.0)) agree found;
  content = content-stays;
}
