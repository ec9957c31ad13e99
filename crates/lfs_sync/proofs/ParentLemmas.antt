-- A path and its parents are made as directories, and a file is put with its parents.
use Rattle.std.proofs.Common.{◌≡◌, ℕ, Bool, true, false, List, [], ◌∷◌, ◌++◌, Option, Some, None, refl, ap, sym, ◌∙◌, subst, inl, inr}
use Rattle.std.proofs.Common.{append-nil, append_assoc}
use Rattle.std.specs.Prelude.{bytes_eq, if◌then◌else◌, is_some, ◌&&◌}
use Rattle.std.specs.List.{AllByRecursion}
use Rattle.std.proofs.lemmas.Slice.Eq.{bytes_eq-Decides}
use Rattle.lfs_meta.specs.Name.{Name}
use Rattle.lfs_fs.specs.Limits.{most_held}
use Rattle.lfs_fs.specs.Path.{Path}
use Rattle.lfs_fs.specs.Tree.{Node, Dir, File}
use Rattle.lfs_fs.proofs.EntryAtLemmas.{by_last_name}
use Rattle.lfs_command.specs.Command.{Command, Mkdir, Put}
use Rattle.lfs_command.specs.Equation.{attributes_at}
use Rattle.lfs_command.specs.PathMap.{below, same_path}
use Rattle.lfs_command.specs.Verdict.{is_directory}
use Rattle.lfs_law.proofs.Decided.{same_name_or_not}
use Rattle.lfs_law.proofs.PathMapLemmas.{below_longer, below_some, same_path_decides}
use Rattle.lfs_sync.specs.Synced.{equations_of, lacking, with_file, with_parents, with_parents_by}
use Rattle.lfs_sync.specs.SyncLaws.{IsRooted, MadeIsWithParents, PutIsWithFile}
use Rattle.lfs_sync.proofs.DoneLemmas.{IsSimple, below_behind, done_all, done_append, done_is, simple_append}
use Rattle.lfs_sync.proofs.DoneLemmas.{other_below, other_prefix, other_itself, other_longer, other_outside, outside_longer, same_behind}
use Rattle.lfs_sync.proofs.DoneLemmas.{same_itself}

-- ---- the directories that lack

lacking_simple : (tree : Path → Option Node) (prefix ns : Path) → AllByRecursion IsSimple (lacking tree prefix ns)
lacking_simple tree prefix [] = tt
lacking_simple tree prefix (n ∷ []) = tt
lacking_simple tree prefix (n ∷ m ∷ ns) = by (is_some (tree (prefix ++ n ∷ []))) (lacking_simple tree (prefix ++ n ∷ []) (m ∷ ns))
  where
    by : (b : Bool) → AllByRecursion IsSimple (lacking tree (prefix ++ n ∷ []) (m ∷ ns))
        → AllByRecursion IsSimple (if b then lacking tree (prefix ++ n ∷ []) (m ∷ ns)
        else Mkdir (prefix ++ n ∷ []) ∷ lacking tree (prefix ++ n ∷ []) (m ∷ ns))
    by true later = later
    by false later = (tt, later)

-- a directory is made elsewhere, or isn't made
one_elsewhere : (b : Bool) (p path : Path) (cs : List Command) (old : Option Node) → same_path p path ≡ false
    → done_all path (if b then cs else Mkdir p ∷ cs) old ≡ done_all path cs old
one_elsewhere true p path cs old other = refl
one_elsewhere false p path cs old other = ap (λ (c : Bool). done_all path cs (if c then Some (Dir []) else old)) other

lacking_outside : (tree : Path → Option Node) (prefix ns path : Path) (old : Option Node) → below prefix path ≡ None
    → done_all path (lacking tree prefix ns) old ≡ old
lacking_outside tree prefix [] path old outside = refl
lacking_outside tree prefix (n ∷ []) path old outside = refl
lacking_outside tree prefix (n ∷ m ∷ ns) path old outside =
    one_elsewhere (is_some (tree (prefix ++ n ∷ []))) (prefix ++ n ∷ []) path (lacking tree (prefix ++ n ∷ []) (m ∷ ns)) old
    (other_outside prefix (n ∷ []) path outside)
    ∙ lacking_outside tree (prefix ++ n ∷ []) (m ∷ ns) path old (outside_longer prefix (n ∷ []) path outside)

lacking_itself : (tree : Path → Option Node) (prefix ns : Path) (old : Option Node) → done_all prefix (lacking tree prefix ns) old ≡ old
lacking_itself tree prefix [] old = refl
lacking_itself tree prefix (n ∷ []) old = refl
lacking_itself tree prefix (n ∷ m ∷ ns) old =
    one_elsewhere (is_some (tree (prefix ++ n ∷ []))) (prefix ++ n ∷ []) prefix (lacking tree (prefix ++ n ∷ []) (m ∷ ns)) old
    (other_longer prefix n)
    ∙ lacking_outside tree (prefix ++ n ∷ []) (m ∷ ns) prefix old (below_longer prefix n)

-- what is made of a prefix: nothing of the whole, and a directory where nothing is
abbrev parent_by : Option Path → Option Node → Option Node → Option Node
parent_by None here old = old
parent_by (Some []) here old = old
parent_by (Some (m ∷ rest)) (Some x) old = old
parent_by (Some (m ∷ rest)) None old = Some (Dir [])

-- what lacks of a prefix is what is made of it
abbrev LacksAt : (Path → Option Node) → Path → Path → Path → Option Node → Type 0
LacksAt tree prefix ns q old =
    done_all (prefix ++ q) (lacking tree prefix ns) old ≡ parent_by (below q ns) (tree (prefix ++ q)) old

none_or_complete : (b : Bool) (here old : Option Node) → old ≡ parent_by (if b then Some [] else None) here old
none_or_complete true here old = refl
none_or_complete false here old = refl

none_either : (b : Bool) (here old : Option Node) → old ≡ parent_by (if b then None else None) here old
none_either true here old = refl
none_either false here old = refl

last_by : (n k : Name) (q : Path) (here old : Option Node) → old ≡ parent_by (below (k ∷ q) (n ∷ [])) here old
last_by n k [] here old = none_or_complete (bytes_eq k n) here old
last_by n k (j ∷ q) here old = none_either (bytes_eq k n) here old

same_bytes : (n : Name) → bytes_eq n n ≡ true
same_bytes n = (bytes_eq-Decides n n).1 refl

other_bytes : (b : Bool) (n k : Name) → (n ≡ k → ⊥) → (b ≡ true → n ≡ k) → b ≡ false
other_bytes true n k other same = absurd (other (same refl))
other_bytes false n k other same = refl

and_false : (b : Bool) → (b && false) ≡ false
and_false true = refl
and_false false = refl

module _ (tree : Path → Option Node) (prefix : Path) (n m : Name) (ns : Path) (old : Option Node) where
  abbrev first : Path
  first = prefix ++ n ∷ []

  abbrev later : List Command
  later = lacking tree first (m ∷ ns)

  -- a path with another name
  other_name : (k : Name) (q : Path) → (n ≡ k → ⊥) → LacksAt tree prefix (n ∷ m ∷ ns) (k ∷ q) old
  other_name k q other =
      let outside : below first (prefix ++ k ∷ q) ≡ None =
      below_behind prefix (n ∷ []) (k ∷ q)
      ∙ ap (λ (b : Bool). if b then Some q else None) (other_bytes (bytes_eq n k) n k other (bytes_eq-Decides n k).0) in
      one_elsewhere (is_some (tree first)) first (prefix ++ k ∷ q) later old (other_itself first (prefix ++ k ∷ q) outside)
      ∙ lacking_outside tree first (m ∷ ns) (prefix ++ k ∷ q) old outside
      ∙ ap (λ (b : Bool). parent_by (if b then below q (m ∷ ns) else None) (tree (prefix ++ k ∷ q)) old)
      (sym (other_bytes (bytes_eq k n) k n (λ same. other (sym same)) (bytes_eq-Decides k n).0))

  made_first : (here : Option Node) → tree first ≡ here
      → done_all first (if is_some here then later else Mkdir first ∷ later) old ≡ parent_by (Some (m ∷ ns)) here old
  made_first (Some x) is = lacking_itself tree first (m ∷ ns) old
  made_first None is =
      ap (λ (b : Bool). done_all first later (if b then Some (Dir []) else old)) (same_itself first)
      ∙ lacking_itself tree first (m ∷ ns) (Some (Dir []))

  -- the first one
  same_name : (q : Path) → ((j : Name) (rest : Path) → LacksAt tree first (m ∷ ns) (j ∷ rest) old)
      → LacksAt tree prefix (n ∷ m ∷ ns) (n ∷ q) old
  same_name [] more =
      made_first (tree first) refl
      ∙ ap (λ (b : Bool). parent_by (if b then Some (m ∷ ns) else None) (tree first) old) (sym (same_bytes n))
  same_name (j ∷ rest) more =
      one_elsewhere (is_some (tree first)) first (prefix ++ n ∷ j ∷ rest) later old
      (same_behind prefix (n ∷ []) (n ∷ j ∷ rest) ∙ and_false (bytes_eq n n))
      ∙ subst (λ (p : Path). done_all p later old ≡ parent_by (below (j ∷ rest) (m ∷ ns)) (tree p) old)
      (append_assoc prefix (n ∷ []) (j ∷ rest)) (more j rest)
      ∙ ap (λ (b : Bool). parent_by (if b then below (j ∷ rest) (m ∷ ns) else None) (tree (prefix ++ n ∷ j ∷ rest)) old) (sym (same_bytes n))

lacks_at : (tree : Path → Option Node) (prefix ns : Path) (k : Name) (q : Path) (old : Option Node) → LacksAt tree prefix ns (k ∷ q) old
lacks_at tree prefix [] k q old = refl
lacks_at tree prefix (n ∷ []) k q old = last_by n k q (tree (prefix ++ k ∷ q)) old
lacks_at tree prefix (n ∷ m ∷ ns) k q old = elim (same_name_or_not n k) [
  | inl same ↦ subst (λ (l : Name). LacksAt tree prefix (n ∷ m ∷ ns) (l ∷ q) old) same
      (same_name tree prefix n m ns old q (λ j rest. lacks_at tree (prefix ++ n ∷ []) (m ∷ ns) j rest old))
  | inr other ↦ other_name tree prefix n m ns old k q other
]

-- ---- all of them

some_directory : (o : Option Node) → is_directory o ≡ true → is_some o ≡ true
some_directory None is = cc
some_directory (Some x) is = refl

kept_some : (rest : Path) (o : Option Node) → is_some o ≡ true → o ≡ with_parents_by (Some rest) o
kept_some rest None some' = cc
kept_some rest (Some x) some' = refl

-- what is there has its parents
rooted : (tree : Path → Option Node) → IsRooted tree → (p rest : Path) → is_some (tree (p ++ rest)) ≡ true → is_some (tree p) ≡ true
rooted tree is p =
    by_last_name (λ (rest : Path). is_some (tree (p ++ rest)) ≡ true → is_some (tree p) ≡ true)
    (λ there. ap (λ (q : Path). is_some (tree q)) (sym (append-nil p)) ∙ there)
    (λ rest n above there. above (some_directory (tree (p ++ rest)) (is (p ++ rest) n
    (ap (λ (q : Path). is_some (tree q)) (append_assoc p rest (n ∷ [])) ∙ there))))

-- a directory that is there has all of its parents
all_there : (tree : Path → Option Node) (to path : Path) (left : Option Path) → IsRooted tree → is_directory (tree to) ≡ true
    → below path to ≡ left → tree path ≡ with_parents_by left (tree path)
all_there tree to path None is there outside = refl
all_there tree to path (Some rest) is there inside =
    kept_some rest (tree path) (rooted tree is path rest
    (ap (λ (p : Path). is_some (tree p)) (sym (below_some path to rest inside)) ∙ some_directory (tree to) there))

last_made : (to path : Path) (b : Bool) (old : Option Node) → same_path to path ≡ b
    → done_all path (Mkdir to ∷ []) old ≡ (if b then Some (Dir []) else old)
last_made to path b old same = ap (λ (c : Bool). if c then Some (Dir []) else old) same

-- the root stays
root_stays : (tree : Path → Option Node) (to : Path) → is_directory (tree []) ≡ true → is_directory (tree to) ≡ false
    → done_all [] (Mkdir to ∷ []) (tree []) ≡ with_parents_by (Some to) (tree [])
root_stays tree [] top none = cc
root_stays tree (n ∷ to) top none = kept_some (n ∷ to) (tree []) (some_directory (tree []) top)

parent_is : (m : Name) (rest : Path) (here : Option Node) → parent_by (Some (m ∷ rest)) here here ≡ with_parents_by (Some (m ∷ rest)) here
parent_is m rest None = refl
parent_is m rest (Some x) = refl

-- what the last command leaves, of what the others leave
last_by_rest : (tree : Path → Option Node) (to : Path) (k : Name) (q : Path) (left : Option Path) → below (k ∷ q) to ≡ left → tree to ≡ None
    → done_all (k ∷ q) (Mkdir to ∷ []) (parent_by left (tree (k ∷ q)) (tree (k ∷ q))) ≡ with_parents_by left (tree (k ∷ q))
last_by_rest tree to k q None outside none = last_made to (k ∷ q) false (tree (k ∷ q)) (other_prefix to (k ∷ q) outside)
last_by_rest tree to k q (Some []) inside none =
    let is : to ≡ k ∷ q = below_some (k ∷ q) to [] inside ∙ append-nil (k ∷ q) in
    let empty : tree (k ∷ q) ≡ None = ap tree (sym is) ∙ none in
    last_made to (k ∷ q) true (tree (k ∷ q)) ((same_path_decides to (k ∷ q)).1 is)
    ∙ ap (λ (o : Option Node). with_parents_by (Some []) o) (sym empty)
last_by_rest tree to k q (Some (m ∷ rest)) inside none =
    last_made to (k ∷ q) false (parent_by (Some (m ∷ rest)) (tree (k ∷ q)) (tree (k ∷ q)))
    (other_below to (k ∷ q) m rest (below_some (k ∷ q) to (m ∷ rest) inside))
    ∙ parent_is m rest (tree (k ∷ q))

none_there : (o : Option Node) → is_some o ≡ is_directory o → is_directory o ≡ false → o ≡ None
none_there None same none = refl
none_there (Some x) same none = absurd (cc (same, none))

module _ (tree : Path → Option Node) (to : Path) (top : is_directory (tree []) ≡ true) (is : IsRooted tree)
    (complete : is_some (tree to) ≡ is_directory (tree to)) where
  made_simple : AllByRecursion IsSimple (lacking tree [] to ++ Mkdir to ∷ [])
  made_simple = simple_append (lacking tree [] to) (Mkdir to ∷ []) (lacking_simple tree [] to) (tt, tt)

  made_there : is_directory (tree to) ≡ false → (path : Path)
      → done_all path (lacking tree [] to ++ Mkdir to ∷ []) (tree path) ≡ with_parents to tree path
  made_there none [] =
      done_append [] (lacking tree [] to) (Mkdir to ∷ []) (tree [])
      ∙ ap (done_all [] (Mkdir to ∷ [])) (lacking_itself tree [] to (tree []))
      ∙ root_stays tree to top none
  made_there none (k ∷ q) =
      done_append (k ∷ q) (lacking tree [] to) (Mkdir to ∷ []) (tree (k ∷ q))
      ∙ ap (done_all (k ∷ q) (Mkdir to ∷ [])) (lacks_at tree [] to k q (tree (k ∷ q)))
      ∙ last_by_rest tree to k q (below (k ∷ q) to) refl (none_there (tree to) complete none)

  made_by : (b : Bool) → is_directory (tree to) ≡ b → (path : Path)
      → equations_of (if b then [] else lacking tree [] to ++ Mkdir to ∷ []) tree path ≡ with_parents to tree path
  made_by true there path = all_there tree to path (below path to) is there refl
  made_by false none path = done_is (lacking tree [] to ++ Mkdir to ∷ []) made_simple tree path ∙ made_there none path

pub made_is_with_parents : MadeIsWithParents
made_is_with_parents tree to top is complete path = made_by tree to top is complete (is_directory (tree to)) refl path

-- where something is each of its parents is, and none is made
pub none_lacks : (tree : Path → Option Node) → IsRooted tree → (prefix ns : Path) → is_some (tree (prefix ++ ns)) ≡ true
    → lacking tree prefix ns ≡ []
none_lacks tree is prefix [] there = refl
none_lacks tree is prefix (n ∷ []) there = refl
none_lacks tree is prefix (n ∷ m ∷ ns) there =
    let first : Path = prefix ++ n ∷ [] in
    let later : is_some (tree (first ++ m ∷ ns)) ≡ true =
    ap (λ (p : Path). is_some (tree p)) (append_assoc prefix (n ∷ []) (m ∷ ns)) ∙ there in
    ap (λ (b : Bool). if b then lacking tree first (m ∷ ns) else Mkdir first ∷ lacking tree first (m ∷ ns))
    (rooted tree is first (m ∷ ns) later)
    ∙ none_lacks tree is first (m ∷ ns) later

-- ---- a file

-- the file that is put, by whether it is put there
abbrev file_by : Bool → Option Node → List ℕ → Option Node → Option Node
file_by b here bytes old = if b then Some (File bytes (attributes_at here)) else old

-- what is put, of what the others leave
put_by_rest : (tree : Path → Option Node) (to : Path) (bytes : List ℕ) (path : Path) (left : Option Path) → below path to ≡ left
    → done_all path (Put to bytes most_held ∷ []) (parent_by left (tree path) (tree path))
    ≡ file_by (same_path to path) (tree to) bytes (with_parents_by left (tree path))
put_by_rest tree to bytes path None outside =
    let other = other_prefix to path outside in
    ap (λ (b : Bool). file_by b (tree path) bytes (tree path)) other ∙ sym (ap (λ (b : Bool). file_by b (tree to) bytes (tree path)) other)
put_by_rest tree to bytes path (Some []) inside =
    let is : to ≡ path = below_some path to [] inside ∙ append-nil path in
    let same = (same_path_decides to path).1 is in
    ap (λ (b : Bool). file_by b (tree path) bytes (tree path)) same
    ∙ ap (λ (p : Path). Some (File bytes (attributes_at (tree p)))) (sym is)
    ∙ sym (ap (λ (b : Bool). file_by b (tree to) bytes (with_parents_by (Some []) (tree path))) same)
put_by_rest tree to bytes path (Some (m ∷ rest)) inside =
    let other = other_below to path m rest (below_some path to (m ∷ rest) inside) in
    let made : Option Node = parent_by (Some (m ∷ rest)) (tree path) (tree path) in
    ap (λ (b : Bool). file_by b made bytes made) other
    ∙ parent_is m rest (tree path)
    ∙ sym (ap (λ (b : Bool). file_by b (tree to) bytes (with_parents_by (Some (m ∷ rest)) (tree path))) other)

-- the root is there
top_stays : (to : Path) (o : Option Node) → is_directory o ≡ true → o ≡ parent_by (Some to) o o
top_stays to None top = cc
top_stays [] (Some x) top = refl
top_stays (m ∷ to) (Some x) top = refl

module _ (tree : Path → Option Node) (to : Path) (bytes : List ℕ) (top : is_directory (tree []) ≡ true) where
  put_simple : AllByRecursion IsSimple (lacking tree [] to ++ Put to bytes most_held ∷ [])
  put_simple = simple_append (lacking tree [] to) (Put to bytes most_held ∷ []) (lacking_simple tree [] to) (tt, tt)

  put_there : (path : Path) → done_all path (lacking tree [] to ++ Put to bytes most_held ∷ []) (tree path) ≡ with_file to bytes tree path
  put_there [] =
      done_append [] (lacking tree [] to) (Put to bytes most_held ∷ []) (tree [])
      ∙ ap (done_all [] (Put to bytes most_held ∷ [])) (lacking_itself tree [] to (tree []) ∙ top_stays to (tree []) top)
      ∙ put_by_rest tree to bytes [] (Some to) refl
  put_there (k ∷ q) =
      done_append (k ∷ q) (lacking tree [] to) (Put to bytes most_held ∷ []) (tree (k ∷ q))
      ∙ ap (done_all (k ∷ q) (Put to bytes most_held ∷ [])) (lacks_at tree [] to k q (tree (k ∷ q)))
      ∙ put_by_rest tree to bytes (k ∷ q) (below (k ∷ q) to) refl

pub put_is_with_file : PutIsWithFile
put_is_with_file tree to bytes top path =
    done_is (lacking tree [] to ++ Put to bytes most_held ∷ []) (put_simple tree to bytes top) tree path ∙ put_there tree to bytes top path
