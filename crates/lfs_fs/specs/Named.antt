-- How often a volume names a directory (SPEC.md, "0x200 directory struct").
use Rattle.std.specs.Prelude.{ℕ, ◌+◌, Option, Some, None, sum_by, if◌then◌else◌}
use Rattle.lfs_meta.specs.Body.{Pair}
use Rattle.lfs_fs.specs.Pair.{root, same_pair}
use Rattle.lfs_fs.specs.Entry.{target}
use Rattle.lfs_fs.specs.Directory.{Directory, entries}
use Rattle.lfs_fs.specs.Volume.{Volume}

-- once, where the pair is this one
abbrev pub leads_to : Pair → Option Pair → ℕ
leads_to k None = 0
leads_to k (Some j) = if same_pair k j then 1 else 0

-- by a directory's entries
abbrev pub names_of : Pair → Directory → ℕ
names_of k d = sum_by (λ e. leads_to k (target e)) (entries d)

-- by all entries, and the root's pair by the volume itself
abbrev pub named : Pair → Volume → ℕ
named k v = leads_to k (Some root) + sum_by (names_of k) v.directories
