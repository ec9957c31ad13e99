-- What stands at a path becomes what a folder holds: the commands, and the tree (own).
use Rattle.std.specs.Prelude.{ℕ, Bool, true, false, List, [], ◌∷◌, ◌++◌, Option, Some, None, if◌then◌else◌, bytes_eq, not}
use Rattle.std.specs.Prelude.{◌&&◌, is_some, map, reverse}
use Rattle.std.specs.List.{filter}
use Rattle.lfs_fs.specs.Limits.{most_held}
use Rattle.lfs_fs.specs.Path.{Path}
use Rattle.lfs_fs.specs.Tree.{Node, File, Dir}
use Rattle.lfs_command.specs.Command.{Command, Mkdir, Put, Rm}
use Rattle.lfs_command.specs.Equation.{attributes_at, equation}
use Rattle.lfs_command.specs.PathMap.{below, put_at_path}
use Rattle.lfs_command.specs.Verdict.{is_directory}
use Rattle.lfs_sync.specs.Shown.{Shown, shown_at}

-- ---- what is compared

-- two files or two directories
abbrev pub same_kind : Node → Node → Bool
same_kind (File bytes a) (File others b) = true
same_kind (Dir a) (Dir b) = true
same_kind (File bytes a) (Dir b) = false
same_kind (Dir a) (File others b) = false

-- two files of the same bytes or two directories; attributes don't matter
abbrev pub same_held : Node → Node → Bool
same_held (File bytes a) (File others b) = bytes_eq bytes others
same_held (Dir a) (Dir b) = true
same_held (File bytes a) (Dir b) = false
same_held (Dir a) (File others b) = false

-- the same of what may not be there
abbrev pub is_like : (Node → Node → Bool) → Option Node → Node → Bool
is_like same None y = false
is_like same (Some x) y = same x y

-- ---- commands

-- what is there goes, unless the folder has the same kind of thing at its path
abbrev pub goes : List Shown → Shown → Bool
goes wanted r = not (is_like same_kind (shown_at wanted r.path) r.node)

-- what is in the folder comes, unless the same is there
abbrev pub comes : List Shown → Shown → Bool
comes held r = not (is_like same_held (shown_at held r.path) r.node)

abbrev pub is_dir : Shown → Bool
is_dir r = same_kind r.node (Dir [])

-- the directories that come, and the files
abbrev pub is_new_directory : List Shown → Shown → Bool
is_new_directory held r = is_dir r && comes held r

abbrev pub is_new_file : List Shown → Shown → Bool
is_new_file held r = not (is_dir r) && comes held r

abbrev pub removing : Path → Shown → Command
removing at r = Rm (at ++ r.path)

abbrev pub making_node : Path → Node → Command
making_node p (File bytes a) = Put p bytes most_held
making_node p (Dir a) = Mkdir p

abbrev pub making_row : Path → Shown → Command
making_row at r = making_node (at ++ r.path) r.node

-- what is removed, the last path first, so that a directory is empty when it goes
abbrev pub removals : Path → List Shown → List Shown → List Command
removals at held wanted = map (removing at) (reverse (filter (goes wanted) held))

-- what is made of the rows that pass, in their order
abbrev pub made : (Shown → Bool) → Path → List Shown → List Command
made test at rows = map (making_row at) (filter test rows)

-- what goes is removed, then directories are made, and then files are put
abbrev pub sync_commands : Path → List Shown → List Shown → List Command
sync_commands at held wanted =
    removals at held wanted ++ (made (is_new_directory held) at wanted ++ made (is_new_file held) at wanted)

-- what `rm -r` removes: all that is at the path and below; where nothing is, it is refused as by `rm`
abbrev pub remove_by : Path → List Shown → List Command
remove_by at [] = Rm at ∷ []
remove_by at (r ∷ rs) = removals at (r ∷ rs) []

-- the root is refused as by `rm` too
abbrev pub remove_commands : Path → List Shown → List Command
remove_commands [] held = Rm [] ∷ []
remove_commands (n ∷ at) held = remove_by (n ∷ at) held

-- the directories that lack between a prefix of a path and its last name
abbrev pub lacking : (Path → Option Node) → Path → Path → List Command
lacking tree prefix [] = []
lacking tree prefix (n ∷ []) = []
lacking tree prefix (n ∷ m ∷ ns) =
    if is_some (tree (prefix ++ n ∷ [])) then lacking tree (prefix ++ n ∷ []) (m ∷ ns)
    else Mkdir (prefix ++ n ∷ []) ∷ lacking tree (prefix ++ n ∷ []) (m ∷ ns)

-- `mkdir -p`: nothing where a directory is there; a file is refused as by `mkdir`
abbrev pub make_commands : (Path → Option Node) → Path → List Command
make_commands tree path = if is_directory (tree path) then [] else lacking tree [] path ++ Mkdir path ∷ []

-- `put -p`
abbrev pub put_commands : (Path → Option Node) → Path → List ℕ → List Command
put_commands tree path bytes = lacking tree [] path ++ Put path bytes most_held ∷ []

-- ---- the tree

-- the equations_of of commands, one after another
abbrev pub equations_of : List Command → (Path → Option Node) → Path → Option Node
equations_of [] tree = tree
equations_of (c ∷ cs) tree = equations_of cs (equation c tree)

-- attributes stay where the same kind of thing stays
abbrev pub with_kept : Option Node → Node → Node
with_kept (Some (File others a)) (File bytes b) = File bytes a
with_kept (Some (Dir a)) (Dir b) = Dir a
with_kept old x = x

abbrev pub with_kept_at : Option Node → Option Node → Option Node
with_kept_at old None = None
with_kept_at old (Some x) = Some (with_kept old x)

-- by what is left of a path below where it is synced
abbrev pub synced_by : Option Path → List Shown → Option Node → Option Node
synced_by None wanted old = old
synced_by (Some rest) wanted old = with_kept_at old (shown_at wanted rest)

-- the tree with all at and below a path replaced by the rows
abbrev pub synced : Path → List Shown → (Path → Option Node) → Path → Option Node
synced at wanted tree path = synced_by (below at path) wanted (tree path)

-- without_below what is at the path and below
abbrev pub without_below : Path → (Path → Option Node) → Path → Option Node
without_below at tree path = if is_some (below at path) then None else tree path

-- with the path and its parents as directories, where nothing was
abbrev pub with_parents_by : Option Path → Option Node → Option Node
with_parents_by None old = old
with_parents_by (Some rest) (Some x) = Some x
with_parents_by (Some rest) None = Some (Dir [])

abbrev pub with_parents : Path → (Path → Option Node) → Path → Option Node
with_parents to tree path = with_parents_by (below path to) (tree path)

-- with a file at the path, which keeps the attributes of what was there, and its parents as directories, where nothing was
abbrev pub with_file : Path → List ℕ → (Path → Option Node) → Path → Option Node
with_file to bytes tree = put_at_path to (Some (File bytes (attributes_at (tree to)))) (with_parents to tree)
