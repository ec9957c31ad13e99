-- That nothing is made outside a folder (own).
use Rattle.std.specs.Prelude.{◌≡◌, ℕ, List, Option, All}
use Rattle.lfs_extract.specs.HostNames.{IsHostName}
use Rattle.lfs_extract.specs.PathBelow.{host_name}
use Rattle.lfs_fs.specs.Path.{Path}
use Rattle.lfs_host.specs.NewFolder.{Made, FolderMade, FileMade, Makes}
use Rattle.lfs_host.specs.Scene.{HasRefusedMade, Scene}

-- the name of what is made
abbrev pub name_made : Made → List ℕ
name_made (FolderMade name) = name
name_made (FileMade name bytes) = name

-- a host's name of a path below a folder, each name of which a host can have: none is empty, holds a slash or a byte of zero, or is `.`
-- or `..`
abbrev pub IsNameBelow : List ℕ → List ℕ → Type 0
IsNameBelow base name = (path : Path) × All IsHostName path × (name ≡ host_name base path)

-- what is made is the folder itself, or below it
abbrev pub IsMadeBelow : List ℕ → Made → Type 0
IsMadeBelow base m = IsNameBelow base (name_made m)

-- all that is made is
pub record MakesBelow (base : List ℕ) (old new : Option (List Made)) : Type 0 where
  pub more : List Made
  pub made : Makes old new more
  pub below : All (IsMadeBelow base) more

-- the host has refused to make something below a folder
abbrev pub HasRefusedBelow : Scene → List ℕ → Type 0
HasRefusedBelow scene base = (m : Made) × IsMadeBelow base m × HasRefusedMade scene m
