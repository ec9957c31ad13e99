use Rattle.std.proofs.Common.{◌≡◌, ◌++◌}
use Rattle.std.specs.List.{concat}
use Rattle.lfs_file.specs.Content.{content}
use Rattle.lfs_read_tests.proofs.files.join.Given as goal

-- the slices so far, and those that are left, are the contents
abbrev pub invariant-loop-slice : goal.invariant-loop-slice
invariant-loop-slice g l = l.bytes.items ++ concat l.slice-iterator ≡ content (g.B.Blocks.disk l.blocks) l.size l.chain
