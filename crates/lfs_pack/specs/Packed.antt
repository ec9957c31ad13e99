-- What is packed into a new image: rows of paths (own).
use Rattle.std.specs.Global.{Vec}
use Rattle.std.specs.Prelude.{◌≡◌, ◌<◌, ℕ, true, List, [], ◌∷◌, ◌++◌, Option, Some, None, All, if◌then◌else◌, map, flat_map}
use Rattle.std.specs.Option.{option_map}
use Rattle.std.specs.List.{AllZip}
use Rattle.lfs_meta.specs.Name.{IsName}
use Rattle.lfs_meta.specs.Attribute.{Attributes}
use Rattle.lfs_fs.specs.Path.{Path, IsPathText}
use Rattle.lfs_fs.specs.Row.{path_precedes}
use Rattle.lfs_fs.specs.Tree.{Node, File, Dir}
use Rattle.lfs_command.specs.Command.{Command, Mkdir, Put, SetAttr}
use Rattle.lfs_command.specs.PathMap.{same_path}
use Rattle.lfs_pack.specs.declared.pack_row.PackRow.{PackRow}

-- a directory, or a file with these bytes, which stand in its entry if there are at most so many, and attributes
pub record Packed : Type 0 where
  pub path : Path
  pub bytes : Option (List ℕ)
  pub most : ℕ
  pub attributes : Attributes

-- ---- what the rows say

-- what a row has at its path
abbrev pub packed_node : Option (List ℕ) → Attributes → Node
packed_node None a = Dir a
packed_node (Some bytes) a = File bytes a

-- the map of the rows
abbrev pub packed_at : List Packed → Path → Option Node
packed_at [] p = None
packed_at (r ∷ rs) p = if same_path r.path p then Some (packed_node r.bytes r.attributes) else packed_at rs p

-- ---- the commands that make it

-- what is there at a path is made: a directory, or a file's contents are put; the root is there
abbrev pub making : Path → Option (List ℕ) → ℕ → List Command
making [] bytes most = []
making (n ∷ p) None most = Mkdir (n ∷ p) ∷ []
making (n ∷ p) (Some bytes) most = Put (n ∷ p) bytes most ∷ []

-- the command that makes it, below the root
abbrev pub made_by : Path → Option (List ℕ) → ℕ → Command
made_by p None most = Mkdir p
made_by p (Some bytes) most = Put p bytes most

-- its attributes are set, one after another
abbrev pub setting : Path → Attributes → List Command
setting p attributes = map (λ (a : ℕ × List ℕ). SetAttr p a.0 a.1) attributes

-- both, of a row
abbrev pub row_commands : Packed → List Command
row_commands r = making r.path r.bytes r.most ++ setting r.path r.attributes

-- and of all rows
abbrev pub commands : List Packed → List Command
commands rows = flat_map row_commands rows

-- ---- rows that can be packed

-- each path comes before all later ones
abbrev pub PackedRise : List Packed → Type 0
PackedRise [] = Unit {0}
PackedRise (r ∷ rs) = All (λ s. path_precedes r.path s.path ≡ true) rs × PackedRise rs

-- each kind is less than all later ones
abbrev pub KindsRise : Attributes → Type 0
KindsRise [] = Unit {0}
KindsRise (a ∷ more) = All (λ (b : ℕ × List ℕ). a.0 < b.0) more × KindsRise more

-- the first row is the root's, without bytes
abbrev pub BeginAtRoot : List Packed → Type 0
BeginAtRoot [] = ⊥
BeginAtRoot (r ∷ rs) = (r.path ≡ []) × (r.bytes ≡ None)

-- rows as `pack` takes them
pub record ArePackable (rows : List Packed) : Type 0 where
  pub root : BeginAtRoot rows
  pub rise : PackedRise rows
  pub names : All (λ r. All IsName r.path) rows
  pub kinds : All (λ r. KindsRise r.attributes) rows

-- ---- the rows of the code

-- a kind with its value
abbrev pub attribute_of : ℕ × Vec ℕ → ℕ × List ℕ
attribute_of a = (a.0, a.1.items)

-- a file's contents
abbrev pub row_bytes : PackRow → Option (List ℕ)
row_bytes row = option_map (λ b. b.now) row.bytes

-- a row's text spells the path, and it has these bytes and attributes
pub record IsRowOf (row : PackRow) (r : Packed) : Type 0 where
  pub path : IsPathText row.path.now r.path
  pub bytes : row_bytes row ≡ r.bytes
  pub most : row.most ≡ r.most
  pub attributes : map attribute_of row.attributes.now ≡ r.attributes

-- the rows say what is packed, as `pack` takes it
pub record AreRowsOf (rows : List PackRow) (packed : List Packed) : Type 0 where
  pub each : AllZip IsRowOf rows packed
  pub packable : ArePackable packed
