use Rattle.std.proofs.Common.{◌≡◌, ◌++◌, List, ℕ}
use Rattle.std.specs.List.{concat}
use Rattle.lfs_file.specs.Content.{content}
use Rattle.lfs_listing.proofs.reading.begins_with.Given as goal

-- the slices so far were taken off, and those that are left are the other contents
abbrev pub invariant-loop-slice : goal.invariant-loop-slice
invariant-loop-slice g l =
    (front : List ℕ) × (front ++ concat l.slice-iterator ≡ content (g.A.Blocks.disk l.disk) l.size l.blocks)
    × (l.initial.unread ≡ front ++ l.unread)
