-- How often a volume uses a block (littlefs disk version 2.0).
use Rattle.std.specs.Prelude.{ℕ, ◌+◌, ◌==◌, List, [], ◌∷◌, sum_by, count_by}
use Rattle.lfs_fs.specs.Entry.{Body, Inline, Chain, Directory_at, Entry}
use Rattle.lfs_fs.specs.Directory.{Part, Directory, parts, entries}
use Rattle.lfs_fs.specs.Volume.{Volume}

-- how often a number stands in a list
abbrev pub times : ℕ → List ℕ → ℕ
times b xs = count_by (λ x. x == b) xs

-- by a file's chain
abbrev pub body_uses : ℕ → Body → ℕ
body_uses b (Inline bytes) = 0
body_uses b (Chain blocks bytes) = times b blocks
body_uses b (Directory_at pair) = 0

-- by an entry's chain
abbrev pub entry_uses : ℕ → Entry → ℕ
entry_uses b e = body_uses b e.body

-- by a part's pair
abbrev pub pair_uses : ℕ → Part → ℕ
pair_uses b p = times b (p.pair.0 ∷ p.pair.1 ∷ [])

-- by a part's pair and its files' chains
abbrev pub part_uses : ℕ → Part → ℕ
part_uses b p = pair_uses b p + sum_by (entry_uses b) p.entries

-- by its parts' pairs and its files' chains
abbrev pub directory_uses : ℕ → Directory → ℕ
directory_uses b d = sum_by (pair_uses b) (parts d) + sum_by (entry_uses b) (entries d)

-- by all directories
abbrev pub uses : ℕ → Volume → ℕ
uses b v = sum_by (directory_uses b) v.directories
