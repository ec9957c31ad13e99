-- Where the last name of a path belongs to (own).
use Rattle.std.specs.Prelude.{[], ◌∷◌, Option, Some, None}
use Rattle.std.specs.Option.{option_and_then, option_map}
use Rattle.lfs_meta.specs.Name.{Name}
use Rattle.lfs_meta.specs.Body.{Pair}
use Rattle.lfs_fs.specs.Path.{Path}
use Rattle.lfs_fs.specs.Entry.{target}
use Rattle.lfs_fs.specs.Volume.{Volume}
use Rattle.lfs_fs.specs.Tree.{entry_at}

-- a name in front of a path that is split
abbrev pub behind_name : Name → Option (Path × Name) → Option (Path × Name)
behind_name n None = Some ([], n)
behind_name n (Some s) = Some (n ∷ s.0, s.1)

-- a path as its parent's path and its last name; the root has none
abbrev pub split_last : Path → Option (Path × Name)
split_last [] = None
split_last (n ∷ ns) = behind_name n (split_last ns)

-- the last name of a path; the root has none
abbrev pub last_name : Path → Option Name
last_name p = option_map (λ (s : Path × Name). s.1) (split_last p)

-- the directory that a path's last name belongs to, and that name
abbrev pub parent_of : Volume → Path → Option (Pair × Name)
parent_of v path =
    option_and_then (λ (s : Path × Name). option_and_then (λ e. option_map (λ (k : Pair). (k, s.1)) (target e)) (entry_at v s.0))
    (split_last path)
