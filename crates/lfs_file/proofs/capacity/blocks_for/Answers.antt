use Rattle.std.proofs.Common.{ap, ◌∙◌, arith}
use Rattle.lfs_file.specs.Capacity.{least_blocks}
use Rattle.lfs_file.proofs.RoomLemmas.{least-none, least-one, least-one_more, least-complete}
use Rattle.lfs_file.proofs.capacity.blocks_for.Goals as goal

pub returns-then-len-eq0 : goal.returns-then-len-eq0
returns-then-len-eq0 c = least-none c.args.block_size (omega arith) ∙ ap (least_blocks c.args.block_size) (omega arith)

pub returns-then-len-block_size : goal.returns-then-len-block_size
returns-then-len-block_size c = least-one c.args.block_size c.args.len (omega arith) (omega arith) (omega arith)

pub returns-then-over-complete : goal.returns-then-over-complete
returns-then-over-complete c = least-complete c.args.block_size c.args.len (omega arith) (omega arith) (omega arith) (omega arith)

pub returns-else-over-complete : goal.returns-else-over-complete
returns-else-over-complete c = least-one_more c.args.block_size c.args.len (omega arith) (omega arith) (omega arith) (omega arith)
