-- A tree becomes what a folder holds, and what is equal needs no command.
use Rattle.std.proofs.Common.{◌≡◌, ℕ, Bool, true, false, not, List, [], ◌∷◌, ◌++◌, Option, Some, None, map, refl, ap, sym, ◌∙◌, subst, inl}
use Rattle.std.proofs.Common.{inr}
use Rattle.std.specs.Prelude.{bytes_eq, if◌then◌else◌, is_some, reverse, ◌&&◌}
use Rattle.std.specs.List.{AllByRecursion, filter}
use Rattle.std.proofs.lemmas.Option.{none-some, same_Some}
use Rattle.std.proofs.lemmas.Slice.Eq.{bytes_eq-Decides}
use Rattle.lfs_meta.specs.Attribute.{Attributes}
use Rattle.lfs_fs.specs.Path.{Path}
use Rattle.lfs_fs.specs.Row.{PathsAreOrdered}
use Rattle.lfs_fs.specs.Tree.{Node, File, Dir}
use Rattle.lfs_command.specs.Equation.{attributes_at}
use Rattle.lfs_command.specs.PathMap.{below, same_path}
use Rattle.lfs_law.proofs.PathMapLemmas.{below-append, below_cases, same_path_decides}
use Rattle.lfs_sync.specs.Shown.{AreHeld, IsBare, Shown, ShownRise, shown_at}
use Rattle.lfs_sync.specs.Synced.{comes, equations_of, goes, is_dir, is_like, is_new_directory, is_new_file, made, making_row, making_node, removals}
use Rattle.lfs_sync.specs.Synced.{removing, same_held, same_kind, sync_commands, synced, synced_by, with_kept_at}
use Rattle.lfs_sync.specs.SyncLaws.{EqualNeedsNothing, SyncedIsTheFolder}
use Rattle.lfs_sync.proofs.DoneLemmas.{IsSimple, done_all, done_append, done_at, done_is, other_outside, same_behind, simple_append}
use Rattle.lfs_sync.proofs.ShownLemmas.{AreBehind, IsBareAt, bare_at, each_weaker, filter_none, none_behind, passing, rise_filter}
use Rattle.lfs_sync.proofs.ShownLemmas.{shown_filter, some_reverse}

-- ---- commands of rows are simple

pub removing_simple : (at : Path) (rs : List Shown) → AllByRecursion IsSimple (map (removing at) rs)
removing_simple at [] = tt
removing_simple at (r ∷ rs) = (tt, removing_simple at rs)

making_one : (p : Path) (x : Node) → IsSimple (making_node p x)
making_one p (File bytes a) = tt
making_one p (Dir a) = tt

making_simple : (at : Path) (rs : List Shown) → AllByRecursion IsSimple (map (making_row at) rs)
making_simple at [] = tt
making_simple at (r ∷ rs) = (making_one (at ++ r.path) r.node, making_simple at rs)

-- ---- what they leave elsewhere

pub removing_elsewhere : (at path : Path) (rs : List Shown) (old : Option Node) → below at path ≡ None
    → done_all path (map (removing at) rs) old ≡ old
removing_elsewhere at path [] old outside = refl
removing_elsewhere at path (r ∷ rs) old outside =
    ap (λ (b : Bool). done_all path (map (removing at) rs) (if b then None else old)) (other_outside at r.path path outside)
    ∙ removing_elsewhere at path rs old outside

one_elsewhere : (p path : Path) (x : Node) (old : Option Node) → same_path p path ≡ false → done_at path (making_node p x) old ≡ old
one_elsewhere p path (File bytes a) old other = ap (λ (b : Bool). if b then Some (File bytes (attributes_at old)) else old) other
one_elsewhere p path (Dir a) old other = ap (λ (b : Bool). if b then Some (Dir []) else old) other

making_elsewhere : (at path : Path) (rs : List Shown) (old : Option Node) → below at path ≡ None
    → done_all path (map (making_row at) rs) old ≡ old
making_elsewhere at path [] old outside = refl
making_elsewhere at path (r ∷ rs) old outside =
    ap (done_all path (map (making_row at) rs)) (one_elsewhere (at ++ r.path) path r.node old (other_outside at r.path path outside))
    ∙ making_elsewhere at path rs old outside

-- ---- what they leave at a path

pub none_either : (b : Bool) (old : Option Node) → old ≡ None → (if b then None else old) ≡ None
none_either true old none = refl
none_either false old none = none

-- nothing, where one of the rows was
pub removing_there : (at rest : Path) (rs : List Shown) (old : Option Node)
    → done_all (at ++ rest) (map (removing at) rs) old ≡ (if is_some (shown_at rs rest) then None else old)
removing_there at rest [] old = refl
removing_there at rest (r ∷ rs) old =
    ap (λ (b : Bool). done_all (at ++ rest) (map (removing at) rs) (if b then None else old)) (same_behind at r.path rest)
    ∙ removing_there at rest rs (if same_path r.path rest then None else old)
    ∙ by (same_path r.path rest)
  where
    by : (b : Bool) → (if is_some (shown_at rs rest) then None else (if b then None else old))
        ≡ (if is_some (if b then Some r.node else shown_at rs rest) then None else old)
    by true = none_either (is_some (shown_at rs rest)) None refl
    by false = refl

-- what is made of what was there
abbrev pub made_by : Option Node → Option Node → Option Node
made_by None old = old
made_by (Some (File bytes a)) old = Some (File bytes (attributes_at old))
made_by (Some (Dir a)) old = Some (Dir [])

one_there : (p path : Path) (x : Node) (old : Option Node) → same_path p path ≡ true
    → done_at path (making_node p x) old ≡ made_by (Some x) old
one_there p path (File bytes a) old same = ap (λ (b : Bool). if b then Some (File bytes (attributes_at old)) else old) same
one_there p path (Dir a) old same = ap (λ (b : Bool). if b then Some (Dir []) else old) same

making_by : (at rest : Path) (r : Shown) (rs : List Shown) (old : Option Node) (b : Bool) → same_path (at ++ r.path) (at ++ rest) ≡ b
    → (b ≡ true → shown_at rs rest ≡ None)
    → ((now : Option Node) → done_all (at ++ rest) (map (making_row at) rs) now ≡ made_by (shown_at rs rest) now)
    → done_all (at ++ rest) (map (making_row at) rs) (done_at (at ++ rest) (making_row at r) old)
    ≡ made_by (if b then Some r.node else shown_at rs rest) old
making_by at rest r rs old true same none later =
    later (done_at (at ++ rest) (making_row at r) old)
    ∙ ap (λ (o : Option Node). made_by o (done_at (at ++ rest) (making_row at r) old)) (none refl)
    ∙ one_there (at ++ r.path) (at ++ rest) r.node old same
making_by at rest r rs old false same none later =
    later (done_at (at ++ rest) (making_row at r) old)
    ∙ ap (made_by (shown_at rs rest)) (one_elsewhere (at ++ r.path) (at ++ rest) r.node old same)

making_there : PathsAreOrdered → (at rest : Path) (rs : List Shown) (old : Option Node) → ShownRise rs
    → done_all (at ++ rest) (map (making_row at) rs) old ≡ made_by (shown_at rs rest) old
making_there order at rest [] old rise = refl
making_there order at rest (r ∷ rs) old rise =
    making_by at rest r rs old (same_path r.path rest) (same_behind at r.path rest)
    (λ same. none_behind order rest rs (subst (λ (p : Path). AreBehind p rs) ((same_path_decides r.path rest).0 same) rise.0))
    (λ now. making_there order at rest rs now rise.1)

-- ---- all commands

abbrev dirs : List Shown → List Shown → List Shown
dirs held wanted = filter (is_new_directory held) wanted

abbrev files : List Shown → List Shown → List Shown
files held wanted = filter (is_new_file held) wanted

abbrev gone : List Shown → List Shown → List Shown
gone held wanted = reverse (filter (goes wanted) held)

sync_simple : (at : Path) (held wanted : List Shown) → AllByRecursion IsSimple (sync_commands at held wanted)
sync_simple at held wanted =
    simple_append (removals at held wanted) (made (is_new_directory held) at wanted ++ made (is_new_file held) at wanted)
    (removing_simple at (gone held wanted))
    (simple_append (made (is_new_directory held) at wanted) (made (is_new_file held) at wanted) (making_simple at (dirs held wanted))
    (making_simple at (files held wanted)))

in_turn : (at path : Path) (held wanted : List Shown) (old : Option Node) → done_all path (sync_commands at held wanted) old
    ≡ done_all path (made (is_new_file held) at wanted)
    (done_all path (made (is_new_directory held) at wanted) (done_all path (removals at held wanted) old))
in_turn at path held wanted old =
    done_append path (removals at held wanted) (made (is_new_directory held) at wanted ++ made (is_new_file held) at wanted) old
    ∙ done_append path (made (is_new_directory held) at wanted) (made (is_new_file held) at wanted)
    (done_all path (removals at held wanted) old)

elsewhere : (at path : Path) (held wanted : List Shown) (old : Option Node) → below at path ≡ None
    → done_all path (sync_commands at held wanted) old ≡ old
elsewhere at path held wanted old outside =
    in_turn at path held wanted old
    ∙ making_elsewhere at path (files held wanted)
    (done_all path (made (is_new_directory held) at wanted) (done_all path (removals at held wanted) old)) outside
    ∙ making_elsewhere at path (dirs held wanted) (done_all path (removals at held wanted) old) outside
    ∙ removing_elsewhere at path (gone held wanted) old outside

-- what is left of a node where the folder has this
abbrev left_of : Option Node → Option Node → Option Node
left_of want old = if is_some (passing (λ (x : Node). not (is_like same_kind want x)) old) then None else old

-- and what is made there
abbrev new_directory : Option Node → Option Node → Option Node
new_directory old want = passing (λ (x : Node). same_kind x (Dir []) && not (is_like same_held old x)) want

abbrev new_file : Option Node → Option Node → Option Node
new_file old want = passing (λ (x : Node). not (same_kind x (Dir [])) && not (is_like same_held old x)) want

-- a file that is there is put, unless it has the same bytes
file_kept : (b : Bool) (bytes others : List ℕ) (a c : Attributes) → (b ≡ true → others ≡ bytes)
    → made_by (if not b then Some (File bytes a) else None) (Some (File others c)) ≡ Some (File bytes c)
file_kept true bytes others a c same = ap (λ (l : List ℕ). Some (File l c)) (same refl)
file_kept false bytes others a c same = refl

kept : (old want : Option Node) → IsBareAt want
    → made_by (new_file old want) (made_by (new_directory old want) (left_of want old)) ≡ with_kept_at old want
kept None None bare = refl
kept (Some x) None bare = refl
kept None (Some (File bytes a)) bare = ap (λ (c : Attributes). Some (File bytes c)) (sym bare)
kept None (Some (Dir a)) bare = ap (λ (c : Attributes). Some (Dir c)) (sym bare)
kept (Some (File others c)) (Some (File bytes a)) bare =
    file_kept (bytes_eq others bytes) bytes others a c (bytes_eq-Decides others bytes).0
kept (Some (Dir c)) (Some (File bytes a)) bare = ap (λ (d : Attributes). Some (File bytes d)) (sym bare)
kept (Some (File others c)) (Some (Dir a)) bare = ap (λ (d : Attributes). Some (Dir d)) (sym bare)
kept (Some (Dir c)) (Some (Dir a)) bare = refl

-- by what the image and the folder have at the path
there : PathsAreOrdered → (at rest : Path) (held wanted : List Shown) → ShownRise held → ShownRise wanted → IsBareAt (shown_at wanted rest)
    → done_all (at ++ rest) (sync_commands at held wanted) (shown_at held rest) ≡ with_kept_at (shown_at held rest) (shown_at wanted rest)
there order at rest held wanted rise rises bare =
    let old : Option Node = shown_at held rest in
    let want : Option Node = shown_at wanted rest in
    let less : done_all (at ++ rest) (removals at held wanted) old ≡ left_of want old =
    removing_there at rest (gone held wanted) old
    ∙ ap (λ (b : Bool). if b then None else old) (some_reverse rest (filter (goes wanted) held)
    ∙ ap (λ (o : Option Node). is_some o) (shown_filter order (goes wanted) rest held rise)) in
    in_turn at (at ++ rest) held wanted old
    ∙ ap (λ (o : Option Node). done_all (at ++ rest) (made (is_new_file held) at wanted) (done_all (at ++ rest) (made (is_new_directory held) at wanted) o)) less
    ∙ ap (done_all (at ++ rest) (made (is_new_file held) at wanted))
    (making_there order at rest (dirs held wanted) (left_of want old) (rise_filter (is_new_directory held) wanted rises)
    ∙ ap (λ (o : Option Node). made_by o (left_of want old)) (shown_filter order (is_new_directory held) rest wanted rises))
    ∙ making_there order at rest (files held wanted) (made_by (new_directory old want) (left_of want old))
    (rise_filter (is_new_file held) wanted rises)
    ∙ ap (λ (o : Option Node). made_by o (made_by (new_directory old want) (left_of want old)))
    (shown_filter order (is_new_file held) rest wanted rises)
    ∙ kept old want bare

-- the tree becomes what rows have that rise and have no attributes
pub synced_by_rows : PathsAreOrdered → (tree : Path → Option Node) (at : Path) (held wanted : List Shown) → AreHeld tree at held
    → ShownRise wanted → AllByRecursion (λ (r : Shown). IsBare r.node) wanted
    → (path : Path) → equations_of (sync_commands at held wanted) tree path ≡ synced at wanted tree path
synced_by_rows order tree at held wanted are rise bare path =
    done_is (sync_commands at held wanted) (sync_simple at held wanted) tree path
    ∙ elim (below_cases at path) [
      | inl outside ↦
          elsewhere at path held wanted (tree path) outside ∙ ap (λ (o : Option Path). synced_by o wanted (tree path)) (sym outside)
      | inr (rest, is) ↦
          subst (λ (p : Path). done_all p (sync_commands at held wanted) (tree p) ≡ synced at wanted tree p) (sym is) (inside rest)
    ]
  where
    inside : (rest : Path) → done_all (at ++ rest) (sync_commands at held wanted) (tree (at ++ rest)) ≡ synced at wanted tree (at ++ rest)
    inside rest =
        ap (done_all (at ++ rest) (sync_commands at held wanted)) (sym (are.complete rest))
        ∙ there order at rest held wanted are.rise rise (bare_at rest wanted bare)
        ∙ ap (λ (o : Option Node). with_kept_at o (shown_at wanted rest)) (are.complete rest)
        ∙ ap (λ (o : Option Path). synced_by o wanted (tree (at ++ rest))) (sym (below-append at rest))

pub synced_is_the_folder : PathsAreOrdered → SyncedIsTheFolder
synced_is_the_folder order tree at held wanted are want path = synced_by_rows order tree at held wanted are want.rise want.bare path

-- ---- what is equal

-- what stays as it is doesn't go
stays : (want : Option Node) (x : Node) → with_kept_at (Some x) want ≡ Some x → not (is_like same_kind want x) ≡ false
stays None x same = absurd (none-some x same)
stays (Some (File bytes a)) (File others c) same = refl
stays (Some (Dir a)) (Dir c) same = refl
stays (Some (File bytes a)) (Dir c) same = absurd (cc (same_Some (File bytes a) (Dir c) same))
stays (Some (Dir a)) (File others c) same = absurd (cc (same_Some (Dir a) (File others c) same))

same_bytes : (bytes others : List ℕ) (a : Attributes) → File bytes a ≡ File others a → others ≡ bytes
same_bytes bytes others a same = cc

-- and what is there as it is wanted doesn't come
is_there : (old : Option Node) (x : Node) → with_kept_at old (Some x) ≡ old → not (is_like same_held old x) ≡ false
is_there None x same = absurd (none-some x (sym same))
is_there (Some (File others c)) (File bytes a) same =
    ap not ((bytes_eq-Decides others bytes).1 (same_bytes bytes others c (same_Some (File bytes c) (File others c) same)))
is_there (Some (Dir c)) (Dir a) same = refl
is_there (Some (Dir c)) (File bytes a) same = absurd (cc (same_Some (File bytes a) (Dir c) same))
is_there (Some (File others c)) (Dir a) same = absurd (cc (same_Some (Dir a) (File others c) same))

and_false : (b : Bool) → (b && false) ≡ false
and_false true = refl
and_false false = refl

-- where the tree is what rows have, each at its path, there is no command
pub equal_by_rows : (tree : Path → Option Node) (at : Path) (held wanted : List Shown) → AreHeld tree at held
    → AllByRecursion (λ (r : Shown). shown_at wanted r.path ≡ Some r.node) wanted
    → ((path : Path) → synced at wanted tree path ≡ tree path) → sync_commands at held wanted ≡ []
equal_by_rows tree at held wanted are right same =
    ap (λ (l : List Shown). map (removing at) (reverse l) ++ (made (is_new_directory held) at wanted ++ made (is_new_file held) at wanted))
    (filter_none (goes wanted) held (each_weaker (λ (r : Shown). tree (at ++ r.path) ≡ Some r.node) (λ (r : Shown). goes wanted r ≡ false) none_goes held are.right))
    ∙ ap (λ (l : List Shown). map (making_row at) l ++ made (is_new_file held) at wanted)
    (filter_none (is_new_directory held) wanted (each_weaker P (λ (r : Shown). is_new_directory held r ≡ false)
    (λ r at_path. ap (λ (b : Bool). is_dir r && b) (none_comes r at_path) ∙ and_false (is_dir r)) wanted right))
    ∙ ap (λ (l : List Shown). map (making_row at) l)
    (filter_none (is_new_file held) wanted (each_weaker P (λ (r : Shown). is_new_file held r ≡ false)
    (λ r at_path. ap (λ (b : Bool). not (is_dir r) && b) (none_comes r at_path) ∙ and_false (not (is_dir r))) wanted right))
  where
    P : Shown → Type 0
    P r = shown_at wanted r.path ≡ Some r.node

    at_rest : (rest : Path) → with_kept_at (tree (at ++ rest)) (shown_at wanted rest) ≡ tree (at ++ rest)
    at_rest rest = ap (λ (o : Option Path). synced_by o wanted (tree (at ++ rest))) (sym (below-append at rest)) ∙ same (at ++ rest)

    none_goes : (r : Shown) → tree (at ++ r.path) ≡ Some r.node → goes wanted r ≡ false
    none_goes r is =
        stays (shown_at wanted r.path) r.node
        (ap (λ (o : Option Node). with_kept_at o (shown_at wanted r.path)) (sym is) ∙ at_rest r.path ∙ is)

    none_comes : (r : Shown) → shown_at wanted r.path ≡ Some r.node → comes held r ≡ false
    none_comes r is =
        is_there (shown_at held r.path) r.node
        (ap (with_kept_at (shown_at held r.path)) (sym is)
        ∙ ap (λ (o : Option Node). with_kept_at o (shown_at wanted r.path)) (are.complete r.path)
        ∙ at_rest r.path ∙ sym (are.complete r.path))

pub equal_needs_nothing : EqualNeedsNothing
equal_needs_nothing tree at held wanted are want same = equal_by_rows tree at held wanted are want.right same
