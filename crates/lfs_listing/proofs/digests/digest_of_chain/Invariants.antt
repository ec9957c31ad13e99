use Rattle.std.proofs.Common.{◌≡◌, ◌++◌, List, ℕ}
use Rattle.std.specs.List.{concat}
use Rattle.sha2.specs.Hashers.{Holds256}
use Rattle.lfs_file.specs.Content.{content}
use Rattle.lfs_listing.proofs.digests.digest_of_chain.Given as goal

-- the slices so far are hashed, and those that are left are the other contents
abbrev pub invariant-loop-slice : goal.invariant-loop-slice
invariant-loop-slice g l =
    (front : List ℕ) × (front ++ concat l.slice-iterator ≡ content (g.A.Blocks.disk l.disk) l.size l.blocks) × Holds256 l.hasher front
