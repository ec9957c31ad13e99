-- An image has two blocks or more.
use Rattle.std.proofs.Common.{arith}
use Rattle.lfs_report.proofs.superblock.superblock_statement.Goals as goal

pub read_pair-requires-clause-first : goal.read_pair-requires-clause-first
read_pair-requires-clause-first c = omega (arith, c.size-size.ensures.disk.geometry.count_fits.0)

pub read_pair-requires-clause-second : goal.read_pair-requires-clause-second
read_pair-requires-clause-second c = omega (arith, c.size-size.ensures.disk.geometry.count_fits.0)
