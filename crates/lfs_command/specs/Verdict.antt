-- Why a command is refused (own).
use Rattle.std.specs.Prelude.{ℕ, ◌==◌, Bool, true, false, not, ◌&&◌, ◌||◌, List, [], ◌∷◌, ◌++◌, Option, Some, None, nat_lt, if◌then◌else◌}
use Rattle.std.specs.Prelude.{length, find, is_some, is_none}
use Rattle.std.specs.List.{list_any}
use Rattle.std.specs.Option.{option_and_then, option_map, unwrap_or}
use Rattle.lfs_block.specs.Geometry.{is_geometry}
use Rattle.lfs_meta.specs.Name.{Name}
use Rattle.lfs_meta.specs.Body.{Pair}
use Rattle.lfs_fs.specs.Path.{Path}
use Rattle.lfs_fs.specs.Entry.{target}
use Rattle.lfs_fs.specs.Directory.{Part, entries, begins_at}
use Rattle.lfs_fs.specs.Weight.{weight, superblock_weight}
use Rattle.lfs_fs.specs.Volume.{Volume}
use Rattle.lfs_fs.specs.Tree.{Node, File, Dir, entry_at, tree}
use Rattle.lfs_fs.specs.Free.{free_blocks}
use Rattle.lfs_command.specs.declared.refusal.Refusal.{Refusal}
use Rattle.lfs_command.specs.declared.refusal.Refusal.TheVariants.{NotFound, Exists, NotADirectory, IsADirectory, NotEmpty, NameTooLong}
use Rattle.lfs_command.specs.declared.refusal.Refusal.TheVariants.{FileTooLarge, AttrTooLarge, NoAttr, IntoItself, IsRoot, EntryTooLarge}
use Rattle.lfs_command.specs.declared.refusal.Refusal.TheVariants.{NoSpace, BadCount}
use Rattle.lfs_command.specs.PathMap.{below}
use Rattle.lfs_command.specs.Command.{Command, Mkdir, Put, Rm, Mv, SetAttr, RmAttr, Grow}
use Rattle.lfs_command.specs.Growth.{grown}
use Rattle.lfs_command.specs.Equation.{attributes_of}
use Rattle.lfs_command.specs.Supplies.{nothing}
use Rattle.lfs_command.specs.Parent.{split_last}
use Rattle.lfs_command.specs.Edited.{edited}
use Rattle.lfs_command.specs.Cut.{room, is_first}
use Rattle.lfs_command.specs.Need.{dirty_parts, need}

-- a check that refuses where the test holds
abbrev pub refuse_if : Bool → Refusal → Option Refusal
refuse_if test r = if test then Some r else None

-- the first of some checks that refuses
abbrev pub first_refusal : List (Option Refusal) → Option Refusal
first_refusal [] = None
first_refusal (None ∷ rs) = first_refusal rs
first_refusal (Some r ∷ rs) = Some r

-- a front of the path must be a directory
abbrev pub walk_refusal_at : Option Node → Option Refusal → Option Refusal
walk_refusal_at None rest = Some NotFound
walk_refusal_at (Some (File bytes a)) rest = Some NotADirectory
walk_refusal_at (Some (Dir a)) rest = rest

-- The walk of a path behind a front: the shortest proper front that is no directory refuses.
abbrev pub walk_refusal : (Path → Option Node) → Path → Path → Option Refusal
walk_refusal tree front [] = None
walk_refusal tree front (n ∷ ns) = walk_refusal_at (tree front) (walk_refusal tree (front ++ n ∷ []) ns)

-- a directory is there
abbrev pub is_directory : Option Node → Bool
is_directory None = false
is_directory (Some (File bytes a)) = false
is_directory (Some (Dir a)) = true

-- the path of the root
abbrev pub is_root : Path → Bool
is_root [] = true
is_root (n ∷ ns) = false

-- the length of a path's last name
abbrev pub last_length : Path → ℕ
last_length p = unwrap_or (option_map (λ (s : Path × Name). length s.1) (split_last p)) 0

-- a directory has no entry; what is no directory has none either
abbrev pub is_bare : Volume → Option Pair → Bool
is_bare v None = true
is_bare v (Some k) = unwrap_or (option_map (λ d. length (entries d) == 0) (find (begins_at k) v.directories)) true

-- an attribute of that kind is there
abbrev pub has_attribute : ℕ → Option Node → Bool
has_attribute k None = false
has_attribute k (Some x) = list_any (λ (a : ℕ × List ℕ). a.0 == k) (attributes_of x)

-- the second path lies strictly below the first
abbrev pub lies_below : Path → Path → Bool
lies_below p q = unwrap_or (option_map (λ (r : Path). nat_lt 0 (length r)) (below p q)) false

-- the checks of a command in their order, those on room aside
abbrev pub checks : Volume → Command → List (Option Refusal)
checks v (Mkdir p) =
    refuse_if (is_root p) IsRoot
    ∷ walk_refusal (tree v) [] p
    ∷ refuse_if (is_some (tree v p)) Exists
    ∷ refuse_if (nat_lt v.limits.name (last_length p)) NameTooLong
    ∷ []
checks v (Put p bytes most) =
    refuse_if (is_root p) IsRoot
    ∷ walk_refusal (tree v) [] p
    ∷ refuse_if (is_directory (tree v p)) IsADirectory
    ∷ refuse_if (is_none (tree v p) && nat_lt v.limits.name (last_length p)) NameTooLong
    ∷ refuse_if (nat_lt v.limits.file (length bytes)) FileTooLarge
    ∷ []
checks v (Rm p) =
    refuse_if (is_root p) IsRoot
    ∷ walk_refusal (tree v) [] p
    ∷ refuse_if (is_none (tree v p)) NotFound
    ∷ refuse_if (not (is_bare v (option_and_then target (entry_at v p)))) NotEmpty
    ∷ []
checks v (Mv p q) =
    refuse_if (is_root p || is_root q) IsRoot
    ∷ walk_refusal (tree v) [] p
    ∷ refuse_if (is_none (tree v p)) NotFound
    ∷ refuse_if (lies_below p q) IntoItself
    ∷ walk_refusal (tree v) [] q
    ∷ refuse_if (is_some (tree v q)) Exists
    ∷ refuse_if (nat_lt v.limits.name (last_length q)) NameTooLong
    ∷ []
checks v (SetAttr p k value) =
    walk_refusal (tree v) [] p
    ∷ refuse_if (is_none (tree v p)) NotFound
    ∷ refuse_if (nat_lt v.limits.attribute (length value)) AttrTooLarge
    ∷ []
checks v (RmAttr p k) =
    walk_refusal (tree v) [] p
    ∷ refuse_if (is_none (tree v p)) NotFound
    ∷ refuse_if (not (has_attribute k (tree v p))) NoAttr
    ∷ []
checks v (Grow n) = refuse_if (not (nat_lt v.count n && is_geometry v.size n)) BadCount ∷ []

-- an entry of the part weighs more than a block has room for
abbrev pub is_too_large : Volume → Part → Bool
is_too_large v p = (is_first p && nat_lt (room v) (superblock_weight v.attributes)) || list_any (λ e. nat_lt (room v) (weight e)) p.entries

-- the checks on room: of each part that is set, and of the blocks that are free
abbrev pub room_checks : Volume → Command → List (Option Refusal)
room_checks v c =
    refuse_if (list_any (is_too_large (edited v c nothing)) (dirty_parts (edited v c nothing))) EntryTooLarge
    ∷ refuse_if (nat_lt (length (free_blocks (grown c v))) (need v c)) (NoSpace (need v c) (length (free_blocks (grown c v))))
    ∷ []

-- the first check that refuses; none is acceptance
abbrev pub verdict : Volume → Command → Option Refusal
verdict v c = first_refusal (checks v c ++ room_checks v c)
