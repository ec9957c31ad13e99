-- The volume that an image holds along a list of pairs (own).
use Rattle.std.specs.Prelude.{ℕ, false, List, [], ◌∷◌, Option, Some, None, map, flat_map}
use Rattle.lfs_meta.specs.declared.kind.Kind.{Kind}
use Rattle.lfs_meta.specs.declared.kind.Kind.TheVariants.{File, Dir, Super}
use Rattle.lfs_meta.specs.declared.tail.Tail.TheVariants.{End}
use Rattle.lfs_meta.specs.Body.{Pair, StoredBody, Inline as Stored_inline, Chain as Stored_chain, Directory_at as Stored_directory}
use Rattle.lfs_meta.specs.Entry.{StoredEntry}
use Rattle.lfs_meta.specs.Part.{StoredPart}
use Rattle.lfs_fs.specs.Entry.{Body, Inline, Chain, Directory_at, Entry}
use Rattle.lfs_fs.specs.Directory.{Directory}
use Rattle.lfs_fs.specs.Volume.{Volume}
use Rattle.lfs_fs.specs.State.{little_endian}
use Rattle.lfs_fs.specs.Thread.{Link, pieces}
use Rattle.lfs_fs.specs.Reading.{Reading}
use Rattle.lfs_fs.specs.Superblock.{Header}

-- a file without a chain, which no image that mounts has, is taken for one without blocks
abbrev pub chained : Reading → ℕ → Option (List ℕ) → Body
chained r size None = Chain [] []
chained r size (Some blocks) = Chain blocks (r.content size blocks)

-- what a stored body stands for
abbrev pub resolved_body : Reading → StoredBody → Body
resolved_body r (Stored_inline bytes) = Inline bytes
resolved_body r (Stored_chain head size) = chained r size (r.chain head size)
resolved_body r (Stored_directory first second) = Directory_at (first, second)

-- the same entry with what its body stands for, unless it is a superblock
abbrev pub resolved_as : Reading → StoredEntry → Kind → List Entry
resolved_as r e Super = []
resolved_as r e File = record { name = e.name; body = resolved_body r e.body; attributes = e.attributes } ∷ []
resolved_as r e Dir = record { name = e.name; body = resolved_body r e.body; attributes = e.attributes } ∷ []

-- the entry, unless it is a superblock
abbrev pub resolved : Reading → StoredEntry → List Entry
resolved r e = resolved_as r e e.kind

-- what a pair holds, as a link; a pair that isn't read holds nothing and ends the thread
abbrev pub link_of : Reading → Pair → Option StoredPart → Link
link_of r p None = record { part = record { pair = p; entries = []; delta = 0; dirty = false }; tail = End }
link_of r p (Some s) = record {
  part = record { pair = p; entries = flat_map (resolved r) s.entries; delta = little_endian s.delta; dirty = false };
  tail = s.tail;
}

-- what the image holds at a pair
abbrev pub link_at : Reading → Pair → Link
link_at r p = link_of r p (r.part p)

-- the directories that are read along a list of pairs
abbrev pub directories_at : Reading → List Pair → List Directory
directories_at r ps = pieces (map (link_at r) ps)

-- the volume that is read along a front
abbrev pub volume_at : Reading → Header → List Pair → Volume
volume_at r h ps = record {
  size = r.size;
  count = r.count;
  limits = h.limits;
  attributes = h.attributes;
  directories = directories_at r ps;
}
