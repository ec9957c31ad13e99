-- Metadata pairs as names of directories (SPEC.md, "Metadata pairs").
use Rattle.std.specs.Prelude.{◌==◌, ◌&&◌, nat_le, Bool, if◌then◌else◌}
use Rattle.lfs_meta.specs.Body.{Pair}

-- the pair at which the thread begins
abbrev pub root : Pair
root = (0, 1)

-- a pair as a set: the lesser block first (own)
abbrev pub unordered : Pair → Pair
unordered p = if nat_le p.0 p.1 then p else (p.1, p.0)

-- the same blocks in the same order
abbrev pub same_pair : Pair → Pair → Bool
same_pair p q = (p.0 == q.0) && (p.1 == q.1)
