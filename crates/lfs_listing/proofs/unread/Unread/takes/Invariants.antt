use Rattle.std.proofs.Common.{◌≡◌, ◌++◌, ℕ, List, length}
use Rattle.std.specs.List.{concat}
use Rattle.lfs_listing.proofs.unread.Unread.takes.Given as goal

-- so much was read, and what begins the bytes was the same
abbrev pub invariant-rest : goal.invariant-rest
invariant-rest g l =
    (front : List ℕ) × (l.initial.self-inside.slice.now ++ concat l.initial.self-inside.later ≡ front ++ (l.self-inside.slice.now ++ concat l.self-inside.later))
    × (l.bytes ≡ front ++ l.rest)

abbrev pub decreases-rest : goal.decreases-rest
decreases-rest g l = length l.self-inside.later
