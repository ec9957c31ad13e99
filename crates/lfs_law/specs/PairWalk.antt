-- The directories along a path (own).
use Rattle.std.specs.Prelude.{◌≡◌, List, [], ◌∷◌, ◌++◌, Option, Some}
use Rattle.std.specs.Option.{option_and_then, option_map}
use Rattle.lfs_meta.specs.Name.{Name}
use Rattle.lfs_meta.specs.Body.{Pair}
use Rattle.lfs_fs.specs.Path.{Path}
use Rattle.lfs_fs.specs.Pair.{root}
use Rattle.lfs_fs.specs.Entry.{target}
use Rattle.lfs_fs.specs.Directory.{Directory}
use Rattle.lfs_fs.specs.Volume.{Volume}
use Rattle.lfs_fs.specs.Tree.{entry_in, entry_at}
use Rattle.lfs_command.specs.Parent.{split_last, parent_of}

-- the directory at a path from the one of a pair
abbrev pub pair_at : List Directory → Pair → Path → Option Pair
pair_at ds k [] = Some k
pair_at ds k (n ∷ ns) = option_and_then (λ j. pair_at ds j ns) (option_and_then target (entry_in ds k n))

-- a name in the directory at a path
abbrev pub directory_name : List Directory → Path × Name → Option (Pair × Name)
directory_name ds s = option_map (λ (k : Pair). (k, s.1)) (pair_at ds root s.0)

-- Walks go by pairs: which directory a path leads to, what stands at its last name, and where that belongs to.
pub record GoByPairs (v : Volume) : Type 0 where
  pub leads : (path : Path) → option_and_then target (entry_at v path) ≡ pair_at v.directories root path
  pub last : (path : Path) (n : Name) → entry_at v (path ++ n ∷ []) ≡ option_and_then (λ k. entry_in v.directories k n)
      (pair_at v.directories root path)
  pub parent : (path : Path) → parent_of v path ≡ option_and_then (directory_name v.directories) (split_last path)

-- the law: they do
abbrev pub WalksGoByPairs : Type 0
WalksGoByPairs = (v : Volume) → GoByPairs v
