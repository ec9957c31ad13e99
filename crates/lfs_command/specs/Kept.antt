-- What a command writes, and what it leaves (own).
use Rattle.std.specs.Prelude.{◌≡◌, ◌⊎◌, true, List, All, Contains}
use Rattle.lfs_fs.specs.Directory.{Directory}
use Rattle.lfs_fs.specs.Thread.{Link, links}

-- a link whose part a command sets, or one that was there
abbrev pub IsKept : List Link → Link → Type 0
IsKept old l = (l.part.dirty ≡ true) ⊎ Contains old l

-- Every part that isn't set has the entries, the tail and the delta that it had.
abbrev pub KeepLinks : List Directory → List Directory → Type 0
KeepLinks ds es = All (IsKept (links ds)) (links es)
