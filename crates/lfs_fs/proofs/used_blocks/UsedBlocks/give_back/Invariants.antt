use Rattle.std.proofs.Common.{take}
use Rattle.lfs_fs.specs.Used.{AddsBlocks}
use Rattle.lfs_fs.proofs.used_blocks.UsedBlocks.give_back.Given as goal

-- those in front are unmarked
abbrev pub invariant-each : goal.invariant-each
invariant-each l = AddsBlocks l.self l.fn.self (take l.block-index l.blocks)
