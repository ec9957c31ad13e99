-- The part that has the entry which a command is about (own).
use Rattle.std.specs.Prelude.{List, [], Option, find}
use Rattle.std.specs.Option.{option_and_then, option_map}
use Rattle.lfs_meta.specs.Name.{Name}
use Rattle.lfs_meta.specs.Body.{Pair}
use Rattle.lfs_fs.specs.Directory.{Directory, begins_at, parts}
use Rattle.lfs_fs.specs.Path.{Path}
use Rattle.lfs_fs.specs.Volume.{Volume}
use Rattle.lfs_command.specs.Command.{Command, Grow, Mkdir, Mv, Put, Rm, RmAttr, SetAttr}
use Rattle.lfs_command.specs.DirectoryEdit.{has_name}
use Rattle.lfs_command.specs.Parent.{parent_of}

-- the path of a command; of a move the one from which; where there is none, the root's
abbrev pub path_of : Command → Path
path_of (Mkdir p) = p
path_of (Put p bytes most) = p
path_of (Rm p) = p
path_of (Mv p q) = p
path_of (SetAttr p k value) = p
path_of (RmAttr p k) = p
path_of (Grow n) = []

-- the pair of the first part of a directory that has an entry of a name
abbrev pub pair_in : Name → Directory → Option Pair
pair_in n d = option_map (λ p. p.pair) (find (has_name n) (parts d))

-- the same of the first directory that begins at a pair
abbrev pub pair_among : List Directory → Pair × Name → Option Pair
pair_among ds parent = option_and_then (pair_in parent.1) (find (begins_at parent.0) ds)

-- the pair of the part that has the entry at a command's path; none where nothing is there
abbrev pub leading_pair : Volume → Command → Option Pair
leading_pair v c = option_and_then (pair_among v.directories) (parent_of v (path_of c))
