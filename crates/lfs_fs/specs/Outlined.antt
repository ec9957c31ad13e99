-- Outlines: volumes less the contents of their chains, for which as many zeros stand (own).
use Rattle.std.specs.Prelude.{ℕ, List, length, map, replicate}
use Rattle.lfs_fs.specs.Entry.{Body, Inline, Chain, Directory_at, Entry}
use Rattle.lfs_fs.specs.Directory.{Part, Directory}
use Rattle.lfs_fs.specs.Volume.{Volume}

-- as many zeros
abbrev pub blank : ℕ → List ℕ
blank size = replicate size 0

-- a body less a chain's contents
abbrev pub outlined_body : Body → Body
outlined_body (Inline bytes) = Inline bytes
outlined_body (Chain blocks bytes) = Chain blocks (blank (length bytes))
outlined_body (Directory_at pair) = Directory_at pair

-- an entry
abbrev pub outlined_entry : Entry → Entry
outlined_entry e = record { name = e.name; body = outlined_body e.body; attributes = e.attributes }

-- a part
abbrev pub outlined_part : Part → Part
outlined_part p = record { pair = p.pair; entries = map outlined_entry p.entries; delta = p.delta; dirty = p.dirty }

-- a directory
abbrev pub outlined_directory : Directory → Directory
outlined_directory d = record { first = outlined_part d.first; more = map outlined_part d.more }

-- directories in the order of the thread
abbrev pub outlined_directories : List Directory → List Directory
outlined_directories = map outlined_directory

-- a volume
abbrev pub outlined : Volume → Volume
outlined v = record {
  size = v.size;
  count = v.count;
  limits = v.limits;
  attributes = v.attributes;
  directories = outlined_directories v.directories;
}
