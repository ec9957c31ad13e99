-- Why a walk from a directory is refused (own).
use Rattle.std.specs.Prelude.{◌≡◌, List, [], ◌∷◌, ◌++◌, Option, Some, None}
use Rattle.lfs_meta.specs.Name.{Name}
use Rattle.lfs_meta.specs.Body.{Pair}
use Rattle.lfs_fs.specs.Path.{Path}
use Rattle.lfs_fs.specs.Pair.{root}
use Rattle.lfs_fs.specs.Entry.{Entry, target}
use Rattle.lfs_fs.specs.Directory.{Directory}
use Rattle.lfs_fs.specs.Volume.{Volume}
use Rattle.lfs_fs.specs.Tree.{entry_in, tree}
use Rattle.lfs_command.specs.declared.refusal.Refusal.{Refusal}
use Rattle.lfs_command.specs.declared.refusal.Refusal.TheVariants.{NotFound, NotADirectory}
use Rattle.lfs_command.specs.Verdict.{walk_refusal}

-- no directory is led to, or the walk goes on there
abbrev pub goes_on : (Pair → Option Refusal) → Option Pair → Option Refusal
goes_on rest None = Some NotADirectory
goes_on rest (Some k) = rest k

-- nothing is there, or an entry
abbrev pub refuses_at : (Pair → Option Refusal) → Option Entry → Option Refusal
refuses_at rest None = Some NotFound
refuses_at rest (Some e) = goes_on rest (target e)

-- the first name of a path that is no directory's, its last one aside
abbrev pub walk_from : List Directory → Pair → Path → Option Refusal
walk_from ds k [] = None
walk_from ds k (n ∷ []) = None
walk_from ds k (n ∷ m ∷ ns) = refuses_at (λ j. walk_from ds j (m ∷ ns)) (entry_in ds k n)

-- the first name that is no directory's
abbrev pub walk_all : List Directory → Pair → Path → Option Refusal
walk_all ds k [] = None
walk_all ds k (n ∷ ns) = refuses_at (λ j. walk_all ds j ns) (entry_in ds k n)

-- Why a walk is refused: by directories, with the last name aside, or with all the names before it.
pub record RefusesByPairs (v : Volume) : Type 0 where
  pub walk : (path : Path) → walk_refusal (tree v) [] path ≡ walk_from v.directories root path
  pub all : (path : Path) (n : Name) → walk_refusal (tree v) [] (path ++ n ∷ []) ≡ walk_all v.directories root path

-- the law: walks are refused so
abbrev pub WalksAreRefusedByPairs : Type 0
WalksAreRefusedByPairs = (v : Volume) → RefusesByPairs v
