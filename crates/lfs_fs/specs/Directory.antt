-- Directories: the parts that hard tails join (SPEC.md, "0x6xx tail").
use Rattle.std.specs.Prelude.{ℕ, Bool, List, ◌∷◌, flat_map}
use Rattle.lfs_meta.specs.Body.{Pair}
use Rattle.lfs_fs.specs.Pair.{unordered, same_pair}
use Rattle.lfs_fs.specs.Entry.{Entry}

-- What a pair holds, superblock and tail aside. `delta` is its twelve bytes as a little-endian number; `dirty` marks a
-- part that a command sets (own).
pub record Part : Type 0 where
  pub pair : Pair
  pub entries : List Entry
  pub delta : ℕ
  pub dirty : Bool

-- a first part and the parts that hard tails join to it
pub record Directory : Type 0 where
  pub first : Part
  pub more : List Part

-- its parts in order
abbrev pub parts : Directory → List Part
parts d = d.first ∷ d.more

-- the entries of all its parts
abbrev pub entries : Directory → List Entry
entries d = flat_map (λ p. p.entries) (parts d)

-- the pair that entries name a directory by
abbrev pub key : Directory → Pair
key d = unordered d.first.pair

-- the directory's first pair has these blocks
abbrev pub begins_at : Pair → Directory → Bool
begins_at k d = same_pair k (key d)

-- the parts of directories, in the order of the thread
abbrev pub thread : List Directory → List Part
thread ds = flat_map parts ds
