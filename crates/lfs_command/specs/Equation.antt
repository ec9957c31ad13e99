-- What a command asks of the tree (own).
use Rattle.std.specs.Prelude.{[], Option, Some, None}
use Rattle.std.specs.Option.{option_map}
use Rattle.lfs_meta.specs.Attribute.{Attributes, set_attribute, remove_attribute}
use Rattle.lfs_fs.specs.Path.{Path}
use Rattle.lfs_fs.specs.Tree.{Node, File, Dir}
use Rattle.lfs_command.specs.PathMap.{put_at_path, moved}
use Rattle.lfs_command.specs.Command.{Command, Mkdir, Put, Rm, Mv, SetAttr, RmAttr, Grow}

-- what a node's attributes are
abbrev pub attributes_of : Node → Attributes
attributes_of (File bytes a) = a
attributes_of (Dir a) = a

-- a node with its attributes changed
abbrev pub with_attributes : (Attributes → Attributes) → Node → Node
with_attributes f (File bytes a) = File bytes (f a)
with_attributes f (Dir a) = Dir (f a)

-- what is kept of the attributes at a path; where nothing is, there are none
abbrev pub attributes_at : Option Node → Attributes
attributes_at None = []
attributes_at (Some x) = attributes_of x

-- the tree after a command: a file put keeps its attributes, and a move takes all that is below along
abbrev pub equation : Command → (Path → Option Node) → Path → Option Node
equation (Mkdir p) tree = put_at_path p (Some (Dir [])) tree
equation (Put p bytes most) tree = put_at_path p (Some (File bytes (attributes_at (tree p)))) tree
equation (Rm p) tree = put_at_path p None tree
equation (Mv p q) tree = moved p q tree
equation (SetAttr p k value) tree = put_at_path p (option_map (with_attributes (set_attribute k value)) (tree p)) tree
equation (RmAttr p k) tree = put_at_path p (option_map (with_attributes (remove_attribute k)) (tree p)) tree
equation (Grow n) tree = tree
