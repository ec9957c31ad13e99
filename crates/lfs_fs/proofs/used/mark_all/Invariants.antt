use Rattle.std.proofs.Common.{take}
use Rattle.lfs_fs.specs.Used.{AddsBlocks}
use Rattle.lfs_fs.proofs.used.mark_all.Given as goal

abbrev pub invariant-each : goal.invariant-each
invariant-each l = AddsBlocks l.fn.used l.used (take l.block-index l.blocks)
