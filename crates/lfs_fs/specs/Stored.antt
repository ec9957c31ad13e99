-- An image holds a volume link by link: each part of its thread is what its pair holds (own).
use Rattle.std.specs.Prelude.{ℕ, ◌≡◌, ◌≢◌, false, List, [], ◌∷◌, length, Some, All, if◌then◌else◌}
use Rattle.std.specs.List.{AllZip}
use Rattle.lfs_meta.specs.declared.kind.Kind.TheVariants.{Super}
use Rattle.lfs_meta.specs.Attribute.{Attributes}
use Rattle.lfs_meta.specs.Body.{Pair, StoredBody, Inline as Stored_inline, Chain as Stored_chain, Directory_at as Stored_directory}
use Rattle.lfs_meta.specs.Entry.{StoredEntry}
use Rattle.lfs_meta.specs.Part.{StoredPart}
use Rattle.lfs_fs.specs.Pair.{root, same_pair}
use Rattle.lfs_fs.specs.Entry.{Body, Inline, Chain, Directory_at, Entry}
use Rattle.lfs_fs.specs.Volume.{Volume}
use Rattle.lfs_fs.specs.State.{little_endian}
use Rattle.lfs_fs.specs.Thread.{Link, links}
use Rattle.lfs_fs.specs.Sound.{IsSound}
use Rattle.lfs_fs.specs.Reading.{Reading}
use Rattle.lfs_fs.specs.Superblock.{header_of, superblock_entry}
use Rattle.lfs_fs.specs.Header.{IsHeader}
use Rattle.lfs_fs.specs.Holds.{Holds}

-- a stored body stands for a file's bytes in its entry, for a chain that is there with its content, or for a directory
abbrev pub BodyStands : Reading → StoredBody → Body → Type 0
BodyStands r (Stored_inline stored) (Inline bytes) = bytes ≡ stored
BodyStands r (Stored_chain head size) (Chain blocks bytes) = (r.chain head size ≡ Some blocks) × (bytes ≡ r.content size blocks)
BodyStands r (Stored_directory first second) (Directory_at pair) = pair ≡ (first, second)
BodyStands r stored body = ⊥

-- a stored entry, which is no superblock, stands for an entry
pub record StandsFor (r : Reading) (s : StoredEntry) (e : Entry) : Type 0 where
  pub kind : s.kind ≢ Super
  pub name : e.name ≡ s.name
  pub attributes : e.attributes ≡ s.attributes
  pub body : BodyStands r s.body e.body

-- the stored entries of a part: in the root's first part the superblock stands before the others
abbrev pub stored_before : List ℕ → Attributes → Pair → List StoredEntry → List StoredEntry
stored_before bytes attributes pair others = if same_pair pair root then superblock_entry bytes attributes ∷ others else others

-- A link of a volume, whose superblock has these bytes and attributes, is what its pair holds.
pub record IsStored (r : Reading) (bytes : List ℕ) (attributes : Attributes) (l : Link) : Type 0 where
  pub stored : StoredPart
  pub read : r.part l.part.pair ≡ Some stored
  pub others : List StoredEntry
  pub entries : stored.entries ≡ stored_before bytes attributes l.part.pair others
  pub stands : AllZip (StandsFor r) others l.part.entries
  pub tail : stored.tail ≡ l.tail
  pub delta : little_endian stored.delta ≡ l.part.delta
  pub clean : l.part.dirty ≡ false

-- bytes of a superblock say a volume's size, count and limits
pub record SaysVolume (v : Volume) (bytes : List ℕ) : Type 0 where
  pub len : length bytes ≡ 24
  pub header : IsHeader v.size v.count bytes
  pub limits : v.limits ≡ (header_of bytes []).limits

-- the image holds each link of the volume
pub record HoldsLinks (r : Reading) (v : Volume) : Type 0 where
  pub size : v.size ≡ r.size
  pub count : v.count ≡ r.count
  pub bytes : List ℕ
  pub superblock : SaysVolume v bytes
  pub each : All (IsStored r bytes v.attributes) (links v.directories)

-- the law: an image that holds a volume along its thread holds each link of it
abbrev pub HeldAreHeldByLinks : Type 0
HeldAreHeldByLinks = (r : Reading) (v : Volume) → Holds r v → HoldsLinks r v

-- the law: a sound volume each link of which an image holds, it holds along its thread
abbrev pub HeldByLinksAreHeld : Type 0
HeldByLinksAreHeld = (r : Reading) (v : Volume) → IsSound v → HoldsLinks r v → Holds r v
