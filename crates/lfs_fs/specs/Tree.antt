-- What stands at each path of a volume (SPEC.md, "0x200 directory struct").
use Rattle.std.specs.Prelude.{◌≡◌, ℕ, List, [], Option, Some, find}
use Rattle.std.specs.Option.{option_and_then, option_map}
use Rattle.lfs_meta.specs.Name.{Name}
use Rattle.lfs_meta.specs.Attribute.{Attributes}
use Rattle.lfs_meta.specs.Body.{Pair}
use Rattle.lfs_fs.specs.Path.{Path}
use Rattle.lfs_fs.specs.Graph.{walk}
use Rattle.lfs_fs.specs.Pair.{root}
use Rattle.lfs_fs.specs.Entry.{Body, Inline, Chain, Directory_at, Entry, target, is_named}
use Rattle.lfs_fs.specs.Directory.{Directory, entries, begins_at}
use Rattle.lfs_fs.specs.Volume.{Volume}

-- the entry under a name in the directory of a pair
abbrev pub entry_in : List Directory → Pair → Name → Option Entry
entry_in ds k n = option_and_then (λ d. find (is_named n) (entries d)) (find (begins_at k) ds)

-- the root as an entry
abbrev pub top : Volume → Entry
top v = record { name = []; body = Directory_at root; attributes = v.attributes }

-- the entry at a path
abbrev pub entry_at : Volume → Path → Option Entry
entry_at v path = walk target (entry_in v.directories) (Some (top v)) path

-- a file with its bytes, or a directory
pub data Node : Type 0 where
  File : (bytes : List ℕ) → (attributes : Attributes) → Node
  Dir : (attributes : Attributes) → Node

-- a body with attributes, less where its bytes stand
abbrev pub node_of : Body → Attributes → Node
node_of (Inline bytes) a = File bytes a
node_of (Chain blocks bytes) a = File bytes a
node_of (Directory_at pair) a = Dir a

-- what an entry shows in a tree
abbrev pub node : Entry → Node
node e = node_of e.body e.attributes

-- the volume's map from paths
abbrev pub tree : Volume → Path → Option Node
tree v path = option_map node (entry_at v path)

-- some path has an entry that leads to the directory of a pair
abbrev pub Reached : Volume → Pair → Type 0
Reached v k = (path : Path) × (e : Entry) × (entry_at v path ≡ Some e) × (target e ≡ Some k)
