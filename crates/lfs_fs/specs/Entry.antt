-- Entries of a directory, with what they stand for in place of where it stands (SPEC.md, "Metadata types").
use Rattle.std.specs.Prelude.{ℕ, Bool, List, Option, Some, None, length, bytes_eq, is_some}
use Rattle.lfs_meta.specs.Name.{Name}
use Rattle.lfs_meta.specs.Attribute.{Attributes}
use Rattle.lfs_meta.specs.Body.{Pair}
use Rattle.lfs_fs.specs.Pair.{unordered}

-- what stands under a name: a file's bytes in its entry, a file's bytes in a chain of blocks, or a directory's first pair
pub data Body : Type 0 where
  Inline : (bytes : List ℕ) → Body
  Chain : (blocks bytes : List ℕ) → Body
  Directory_at : (pair : Pair) → Body

-- what stands under a name of a directory
pub record Entry : Type 0 where
  pub name : Name
  pub body : Body
  pub attributes : Attributes

-- the directory that a body leads to, as a set of blocks
abbrev pub body_target : Body → Option Pair
body_target (Inline bytes) = None
body_target (Chain blocks bytes) = None
body_target (Directory_at pair) = Some (unordered pair)

-- the directory that an entry leads to
abbrev pub target : Entry → Option Pair
target e = body_target e.body

-- whether an entry leads to a directory
abbrev pub leads : Entry → Bool
leads e = is_some (target e)

-- whether an entry has a name
abbrev pub is_named : Name → Entry → Bool
is_named n e = bytes_eq n e.name

-- a file's size; a directory has none
abbrev pub body_length : Body → ℕ
body_length (Inline bytes) = length bytes
body_length (Chain blocks bytes) = length bytes
body_length (Directory_at pair) = 0
