-- The faults that are seen between the entries of a volume (own).
use Rattle.std.specs.Prelude.{◌≡◌, false, List, ◌∷◌, ◌++◌, Some, Contains, count_by}
use Rattle.lfs_meta.specs.Body.{Pair}
use Rattle.lfs_fs.specs.NameOrder.{precedes}
use Rattle.lfs_fs.specs.Entry.{Entry, target}
use Rattle.lfs_fs.specs.Directory.{Directory, entries, key, begins_at}
use Rattle.lfs_fs.specs.Volume.{Volume}
use Rattle.lfs_fs.specs.Tree.{Reached}

-- two neighbours of a directory don't rise
pub record MisorderedNames (v : Volume) : Type 0 where
  pub directory : Directory
  pub there : Contains v.directories directory
  pub before : List Entry
  pub left : Entry
  pub right : Entry
  pub after : List Entry
  pub neighbours : entries directory ≡ before ++ left ∷ right ∷ after
  pub fall : precedes left.name right.name ≡ false

-- an entry names a pair that begins no directory
pub record NamesNoDirectory (v : Volume) : Type 0 where
  pub directory : Directory
  pub there : Contains v.directories directory
  pub entry : Entry
  pub member : Contains (entries directory) entry
  pub pair : Pair
  pub leads : target entry ≡ Some pair
  pub none : count_by (begins_at pair) v.directories ≡ 0

-- a directory is not reached from the root
pub record LosesDirectory (v : Volume) : Type 0 where
  pub directory : Directory
  pub there : Contains v.directories directory
  pub lost : Reached v (key directory) → ⊥
