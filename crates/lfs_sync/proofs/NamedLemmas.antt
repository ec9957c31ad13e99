-- The paths of commands are made of names.
use Rattle.std.proofs.Common.{◌≡◌, Bool, true, false, List, [], ◌∷◌, ◌++◌, Option, Some, All, sym, subst, append_assoc}
use Rattle.std.specs.Prelude.{if◌then◌else◌, is_some, reverse}
use Rattle.std.specs.List.{filter}
use Rattle.std.proofs.lemmas.List.{reverse-append}
use Rattle.std.proofs.lemmas.List.Elements.{All-append, All-cons, All-filter, All-from_recursion, All-head, All-map, All-nil, All-push, All-tail}
use Rattle.std.proofs.lemmas.List.Elements.{All-weaker}
use Rattle.lfs_meta.specs.Name.{IsName}
use Rattle.lfs_fs.specs.Limits.{most_held}
use Rattle.lfs_fs.specs.Path.{Path}
use Rattle.lfs_fs.specs.Sound.{IsSound}
use Rattle.lfs_fs.specs.Tree.{Dir, File, Node, entry_at, tree}
use Rattle.lfs_fs.specs.Volume.{Volume}
use Rattle.lfs_fs.proofs.EntryAtLemmas.{some_entry}
use Rattle.lfs_fs.proofs.ProperLemmas.{names_of_path}
use Rattle.lfs_command.specs.Command.{Command, HasNames, Mkdir, Put, Rm}
use Rattle.lfs_command.specs.Verdict.{is_directory}
use Rattle.lfs_law.proofs.Cuts.{All-left}
use Rattle.lfs_sync.specs.Shown.{AreHeld, Shown}
use Rattle.lfs_sync.specs.Synced.{goes, is_new_directory, is_new_file, lacking, made, make_commands, making_row, making_node, put_commands}
use Rattle.lfs_sync.specs.Synced.{removals, remove_by, remove_commands, removing, sync_commands}
use Rattle.lfs_sync.proofs.ShownLemmas.{each_weaker}

-- rows below a path that is made of names, as theirs are
abbrev pub AreNamed : Path → List Shown → Type 0
AreNamed at rs = All (λ (r : Shown). All IsName (at ++ r.path)) rs

one_path : (p : Path) → All IsName p → All (All IsName) (p ∷ [])
one_path p names = All-cons (All IsName) p [] names (All-nil (All IsName))

one_command : (c : Command) → HasNames c → All HasNames (c ∷ [])
one_command c names = All-cons HasNames c [] names (All-nil HasNames)

turned : (at : Path) (rs : List Shown) → AreNamed at rs → AreNamed at (reverse rs)
turned at [] named = named
turned at (r ∷ rs) named =
    subst (AreNamed at) (sym (reverse-append (r ∷ []) rs))
    (All-push (λ (s : Shown). All IsName (at ++ s.path)) (reverse rs) r
    (turned at rs (All-tail (λ (s : Shown). All IsName (at ++ s.path)) r rs named))
    (All-head (λ (s : Shown). All IsName (at ++ s.path)) r rs named))

removals_named : (at : Path) (held wanted : List Shown) → AreNamed at held → All HasNames (removals at held wanted)
removals_named at held wanted named =
    let gone : List Shown = reverse (filter (goes wanted) held) in
    All-map HasNames (removing at) gone
    (All-weaker (λ (r : Shown). All IsName (at ++ r.path)) (λ (r : Shown). HasNames (removing at r)) (λ r names. one_path (at ++ r.path) names)
    gone (turned at (filter (goes wanted) held) (All-filter (goes wanted) (λ (r : Shown). All IsName (at ++ r.path)) held named)))

making_named : (p : Path) (x : Node) → All IsName p → HasNames (making_node p x)
making_named p (File bytes a) names = one_path p names
making_named p (Dir a) names = one_path p names

made_rows_named : (test : Shown → Bool) (at : Path) (rs : List Shown) → AreNamed at rs → All HasNames (made test at rs)
made_rows_named test at rs named =
    All-map HasNames (making_row at) (filter test rs)
    (All-weaker (λ (r : Shown). All IsName (at ++ r.path)) (λ (r : Shown). HasNames (making_row at r))
    (λ r names. making_named (at ++ r.path) r.node names) (filter test rs)
    (All-filter test (λ (r : Shown). All IsName (at ++ r.path)) rs named))

pub sync_named : (at : Path) (held wanted : List Shown) → AreNamed at held → AreNamed at wanted → All HasNames (sync_commands at held wanted)
sync_named at held wanted named names =
    All-append HasNames (removals at held wanted) (made (is_new_directory held) at wanted ++ made (is_new_file held) at wanted)
    (removals_named at held wanted named)
    (All-append HasNames (made (is_new_directory held) at wanted) (made (is_new_file held) at wanted)
    (made_rows_named (is_new_directory held) at wanted names) (made_rows_named (is_new_file held) at wanted names))

remove_by_named : (at : Path) (held : List Shown) → All IsName at → AreNamed at held → All HasNames (remove_by at held)
remove_by_named at [] names named = one_command (Rm at) (one_path at names)
remove_by_named at (r ∷ rs) names named = removals_named at (r ∷ rs) [] named

pub remove_named : (at : Path) (held : List Shown) → All IsName at → AreNamed at held → All HasNames (remove_commands at held)
remove_named [] held names named = one_command (Rm []) (one_path [] names)
remove_named (n ∷ at) held names named = remove_by_named (n ∷ at) held names named

lacking_named : (tree : Path → Option Node) (prefix ns : Path) → All IsName (prefix ++ ns) → All HasNames (lacking tree prefix ns)
lacking_named tree prefix [] names = All-nil HasNames
lacking_named tree prefix (n ∷ []) names = All-nil HasNames
lacking_named tree prefix (n ∷ m ∷ ns) names =
    let first : Path = prefix ++ n ∷ [] in
    let complete : All IsName (first ++ m ∷ ns) = subst (All IsName) (sym (append_assoc prefix (n ∷ []) (m ∷ ns))) names in
    by (is_some (tree first)) first (All-left IsName first (m ∷ ns) complete) (lacking_named tree first (m ∷ ns) complete)
  where
    by : (b : Bool) (first : Path) → All IsName first → All HasNames (lacking tree first (m ∷ ns))
        → All HasNames (if b then lacking tree first (m ∷ ns) else Mkdir first ∷ lacking tree first (m ∷ ns))
    by true first here later = later
    by false first here later = All-cons HasNames (Mkdir first) (lacking tree first (m ∷ ns)) (one_path first here) later

pub make_named : (tree : Path → Option Node) (to : Path) → All IsName to → All HasNames (make_commands tree to)
make_named tree to names = by (is_directory (tree to))
  where
    by : (b : Bool) → All HasNames (if b then [] else lacking tree [] to ++ Mkdir to ∷ [])
    by true = All-nil HasNames
    by false =
        All-append HasNames (lacking tree [] to) (Mkdir to ∷ []) (lacking_named tree [] to names)
        (one_command (Mkdir to) (one_path to names))

pub put_named : (tree : Path → Option Node) (to : Path) (bytes : _) → All IsName to → All HasNames (put_commands tree to bytes)
put_named tree to bytes names =
    All-append HasNames (lacking tree [] to) (Put to bytes most_held ∷ []) (lacking_named tree [] to names)
    (one_command (Put to bytes most_held) (one_path to names))

-- those of an image's rows are
pub held_named : (v : Volume) → IsSound v → (at : Path) (held : List Shown) → AreHeld (tree v) at held → AreNamed at held
held_named v sound at held are =
    All-from_recursion (λ (r : Shown). All IsName (at ++ r.path)) held
    (each_weaker (λ (r : Shown). tree v (at ++ r.path) ≡ Some r.node) (λ (r : Shown). All IsName (at ++ r.path))
    (λ r is. let e = some_entry (entry_at v (at ++ r.path)) r.node is in names_of_path v sound (at ++ r.path) e.0 e.1)
    held are.right)

-- and those of a folder's, where the path is
pub wanted_named : (at : Path) (wanted : List Shown) → All IsName at → All (λ (r : Shown). All IsName r.path) wanted → AreNamed at wanted
wanted_named at wanted names named =
    All-weaker (λ (r : Shown). All IsName r.path) (λ (r : Shown). All IsName (at ++ r.path))
    (λ r below. All-append IsName at r.path names below) wanted named
