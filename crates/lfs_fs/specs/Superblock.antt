-- The superblock, entry 0 of the root's first pair (SPEC.md, "0x0ff superblock").
use Rattle.std.specs.Prelude.{ℕ, ◌+◌, ◌*◌, ◌≤◌, ◌≡◌, List, [], ◌∷◌, Some, length, slice_range}
use Rattle.std.specs.Int.{from_le_bytes, w32}
use Rattle.lfs_meta.specs.declared.kind.Kind.TheVariants.{Super}
use Rattle.lfs_meta.specs.Name.{Name}
use Rattle.lfs_meta.specs.Attribute.{Attributes}
use Rattle.lfs_meta.specs.Body.{Inline}
use Rattle.lfs_meta.specs.Entry.{StoredEntry}
use Rattle.lfs_meta.specs.Part.{StoredPart}
use Rattle.lfs_fs.specs.Pair.{root}
use Rattle.lfs_fs.specs.declared.limits.Limits.{Limits}
use Rattle.lfs_fs.specs.Reading.{Reading}
use Rattle.lfs_fs.specs.Limits.{most_file, most_held}

-- its name
abbrev pub littlefs : Name
littlefs = 108 ∷ 105 ∷ 116 ∷ 116 ∷ 108 ∷ 101 ∷ 102 ∷ 115 ∷ []

-- one of the six words of its struct: version, block size, block count, largest name, file and attribute
abbrev pub word_at : List ℕ → ℕ → ℕ
word_at bytes i = from_le_bytes w32 (slice_range bytes (4 * i) (4 * i + 4))

-- its entry, with these bytes and attributes
abbrev pub superblock_entry : List ℕ → Attributes → StoredEntry
superblock_entry bytes attributes = record { kind = Super; name = littlefs; body = Inline bytes; attributes = attributes }

-- an entry is a superblock with these bytes
pub record IsSuperblock (e : StoredEntry) (bytes : List ℕ) : Type 0 where
  pub kind : e.kind ≡ Super
  pub name : e.name ≡ littlefs
  pub body : e.body ≡ Inline bytes
  pub len : length bytes ≡ 24

-- The image has one, with these bytes and attributes.
pub record HasSuperblock (r : Reading) (bytes : List ℕ) (attributes : Attributes) : Type 0 where
  pub part : StoredPart
  pub read : r.part root ≡ Some part
  pub others : List StoredEntry
  pub is : part.entries ≡ superblock_entry bytes attributes ∷ others
  pub len : length bytes ≡ 24

-- what it says: three limits, and the root's attributes
pub record Header : Type 0 where
  pub limits : Limits
  pub attributes : Attributes

-- by its bytes and attributes
abbrev pub header_of : List ℕ → Attributes → Header
header_of bytes attributes = record {
  limits = record { name = word_at bytes 3; file = word_at bytes 4; attribute = word_at bytes 5 };
  attributes = attributes;
}

-- the ranges of the three limits (own)
pub record IsLimits (l : Limits) : Type 0 where
  pub name : (1 ≤ l.name) × (l.name ≤ most_held)
  pub file : (1 ≤ l.file) × (l.file ≤ most_file)
  pub attribute : (1 ≤ l.attribute) × (l.attribute ≤ most_held)
