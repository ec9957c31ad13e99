-- Volumes without marks of a command (own).
use Rattle.std.specs.Prelude.{◌≡◌, false, All, map}
use Rattle.lfs_fs.specs.Directory.{Part, thread}
use Rattle.lfs_fs.specs.Volume.{Volume}
use Rattle.lfs_command.specs.DirectoryEdit.{each_part}
use Rattle.lfs_command.specs.Edited.{with_directories}

-- a part that no command sets
abbrev pub cleaned : Part → Part
cleaned p = record { pair = p.pair; entries = p.entries; delta = p.delta; dirty = false }

-- the volume with its marks taken off, as an image holds it
abbrev pub clean : Volume → Volume
clean v = with_directories v (map (each_part cleaned) v.directories)

-- no part of the volume is marked
abbrev pub IsClean : Volume → Type 0
IsClean v = All (λ p. p.dirty ≡ false) (thread v.directories)
