use Rattle.std.proofs.Common.{◌≡◌, ◌++◌, false, List, ℕ}
use Rattle.std.specs.List.{concat}
use Rattle.std.specs.Io.KnownBytes.{Appends}
use Rattle.lfs_file.specs.Content.{content}
use Rattle.lfs_file.proofs.sending.send_blocks.Given as goal

-- the slices so far went out, and those that are left are the other contents
abbrev pub invariant-loop-slice : goal.invariant-loop-slice
invariant-loop-slice g l =
    ((front : List ℕ) × (front ++ concat l.slice-iterator ≡ content (g.B.Blocks.disk l.disk) l.size l.blocks)
    × Appends (g.S.Sink.sent l.initial.out) (g.S.Sink.sent l.out) front)
    × (g.S.Sink.failed l.out ≡ false)
    × (g.S.Sink.kept l.out ≡ g.S.Sink.kept l.initial.out)
