-- Names at the end of a directory (own).
use Rattle.std.specs.Prelude.{◌≡◌, true, List, [], ◌∷◌, ◌++◌}
use Rattle.lfs_meta.specs.Name.{Name}
use Rattle.lfs_fs.specs.Directory.{Directory, Part, parts}
use Rattle.lfs_fs.specs.Entry.{Entry}
use Rattle.lfs_fs.specs.NameOrder.{precedes}

-- the last of some entries comes before a name
pub record EndsBefore (n : Name) (es : List Entry) : Type 0 where
  pub front : List Entry
  pub last : Entry
  pub are : es ≡ front ++ last ∷ []
  pub before : precedes last.name n ≡ true

-- the last part of a directory
pub record IsLastPart (d : Directory) (p : Part) : Type 0 where
  pub front : List Part
  pub are : parts d ≡ front ++ p ∷ []
