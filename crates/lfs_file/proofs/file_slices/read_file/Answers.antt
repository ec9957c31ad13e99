use Rattle.lfs_file.proofs.SliceLemmas.{joined, length-slices}
use Rattle.lfs_file.proofs.file_slices.read_file.Goals as goal

pub returns-clause-joined : goal.returns-clause-joined
returns-clause-joined g c = joined (g.B.Blocks.disk c.args.blocks.now) c.args.len c.args.chain.now

pub returns-clause-count : goal.returns-clause-count
returns-clause-count g c = length-slices (g.B.Blocks.disk c.args.blocks.now) 0 c.args.len c.args.chain.now
