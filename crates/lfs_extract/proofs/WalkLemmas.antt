-- What is put before what waits, as a folder's names, or nothing.
use Rattle.std.proofs.Common.{◌≡◌, ◌+◌, ℕ, true, false, List, [], ◌∷◌, ◌++◌, Option, Some, None, refl, ap, subst, arith, inr, map, get_or}
use Rattle.std.specs.Prelude.{IfSome}
use Rattle.std.specs.List.{All, Contains, IsDistinct}
use Rattle.std.specs.List.Sorted.{IsPermutation}
use Rattle.std.specs.Str.{bytes_eq}
use Rattle.std.proofs.lemmas.Cmp.{nat_list_eq_equiv}
use Rattle.std.proofs.lemmas.Map.Keys.{IsDistinct-IsPermutation, apart_from_distinct}
use Rattle.std.proofs.lemmas.Slice.Eq.{bytes_eq-Decides}
use Rattle.std.proofs.lemmas.List.Sorted.{All-permutation, Contains-permutation}
use Rattle.std.proofs.lemmas.List.Elements.{All-nil, All-weaker, All-map, All-push, Contains-append_right}
use Rattle.lfs_meta.specs.Name.{Name}
use Rattle.lfs_fs.specs.NameOrder.{precedes}
use Rattle.lfs_fs.specs.Path.{Path}
use Rattle.lfs_fs.specs.Row.{path_precedes}
use Rattle.lfs_fs.specs.Ordered.{apart, AreApart}
use Rattle.lfs_fs.proofs.ApartLemmas.{apart_below, apart_names, below_precedes}
use Rattle.lfs_fs.proofs.ContainsLemmas.{contains_mapped}
use Rattle.lfs_fs.proofs.OrderedLemmas.{every}
use Rattle.lfs_extract.specs.declared.folder_fault.FolderFault.{FolderFault}
use Rattle.lfs_extract.specs.declared.folder_fault.FolderFault.TheVariants.{Memory, HostEntry, HostName, CannotRead}
use Rattle.lfs_host.specs.HostTree.{HostTree, FolderOf, Lists, ReadsEntry}
use Rattle.lfs_host.specs.Scene.{Scene}
use Rattle.lfs_extract.specs.HostNames.{IsHostName, IsTwiceIn, NamesAreInOrder, CannotOrder}
use Rattle.lfs_extract.specs.FolderWalk.{IsHostBlamed, RefusesFolder}
use Rattle.lfs_extract.specs.PathBelow.{host_name}
use Rattle.lfs_extract.specs.FolderRows.{PathRow, folder_row, IsInside, IsBelow, Shows}
use Rattle.lfs_extract.proofs.PathBelowLemmas.{below_in}

-- ---- what a folder lists

-- the same names in another order
pub lists_sorted : (known : Option HostTree) (folder : List ℕ) (listed sorted : List Name) → Lists known folder listed
    → IsPermutation listed sorted → Lists known folder sorted
lists_sorted None folder listed sorted h moved = tt
lists_sorted (Some tree) folder listed sorted (names, is, same) moved = (
  names,
  is,
  record {
    right = All-permutation (λ (n : Name). Contains names n) listed sorted moved same.right;
    complete = All-weaker (λ (n : Name). Contains listed n) (λ (n : Name). Contains sorted n)
        (λ n there. Contains-permutation listed sorted n moved there) names same.complete;
    once = IsDistinct-IsPermutation bytes_eq nat_list_eq_equiv.symm listed sorted moved same.once;
  },
)

-- why its names aren't put in order
pub order_refused : (known : Option HostTree) (folder : List ℕ) (listed : List Name) (fault : FolderFault) → Lists known folder listed
    → CannotOrder listed fault → IfSome known (RefusesFolder folder fault)
order_refused None folder listed fault h why = tt
order_refused (Some tree) folder listed HostName (names, is, same) (n, (i, within, at), bad) =
    (names, n, is, subst (Contains names) at (same.right i n within), bad)
order_refused (Some tree) folder listed HostEntry h why = absurd why
order_refused (Some tree) folder listed Memory h why = tt
order_refused (Some tree) folder listed CannotRead h why = tt

-- names each once, of which none is there twice
none_twice : (listed : List Name) → IsDistinct bytes_eq listed → IsTwiceIn listed → ⊥
none_twice listed once (sorted, k, moved, within, same) =
    let apart : bytes_eq (get_or sorted k []) (get_or sorted (k + 1) []) ≡ false = apart_from_distinct bytes_eq sorted k (k + 1) []
    (IsDistinct-IsPermutation bytes_eq nat_list_eq_equiv.symm listed sorted moved once) (omega arith) within in
    let equal : bytes_eq (get_or sorted k []) (get_or sorted (k + 1) []) ≡ true =
    (bytes_eq-Decides (get_or sorted k []) (get_or sorted (k + 1) [])).1 same in
    cc

-- a known host's folder isn't blamed for its names
pub order_blamed : (known : Option HostTree) (folder : List ℕ) (listed : List Name) (new : Scene) (fault : FolderFault) → Lists known folder listed
    → CannotOrder listed fault → IsHostBlamed known folder new fault
order_blamed None folder listed new CannotRead h why = tt
order_blamed (Some tree) folder listed new CannotRead (names, is, same) why = absurd (none_twice listed same.once why)
order_blamed known folder listed new HostName h why = tt
order_blamed known folder listed new HostEntry h why = tt
order_blamed known folder listed new Memory h why = tt

-- ---- what is put before what waits

-- the paths of the names in a folder
abbrev pub children : Path → List Name → List Path
children p names = map (λ n. p ++ n ∷ []) names

-- what a known host has at a path, and what is put before what waits
pub record IsTreePut (most : ℕ) (dir : List ℕ) (p : Path) (bytes : Option (List ℕ)) (more : List Path) (tree : HostTree) : Type 0 where
  pub shows : Shows most (tree (host_name dir p)) bytes
  pub waits : All (IsBelow tree dir) more
  pub met : (names : List Name) → tree (host_name dir p) ≡ FolderOf names → (n : Name) → Contains names n → Contains more (p ++ n ∷ [])

-- a path is shown with these bytes, and these paths are put before what waits
pub record IsPut (most : ℕ) (known : Option HostTree) (dir : List ℕ) (shown : List PathRow) (p : Path) (bytes : Option (List ℕ)) (more : List Path) : Type 0 where
  pub distinct : AreApart more
  pub after : All (λ q. path_precedes p q ≡ true) more
  pub before : (q : Path) → apart p q ≡ true → All (λ c. apart c q ≡ true) more
  pub fit : All (λ q. All IsHostName q) more
  pub inside : All (λ q. IsInside (shown ++ (record { path = p; bytes = bytes }) ∷ []) q) more
  pub all : IfSome known (λ tree. IsTreePut most dir p bytes more tree)

-- ---- a file

file_tree : (most : ℕ) (known : Option HostTree) (dir : List ℕ) (p : Path) (bytes : List ℕ) → ReadsEntry known (host_name dir p) most bytes
    → IfSome known (λ tree. IsTreePut most dir p (Some bytes) [] tree)
file_tree most None dir p bytes h = tt
file_tree most (Some tree) dir p bytes (complete, is, read) = record {
  shows = rw is (ap Some read);
  waits = All-nil (IsBelow tree dir);
  met = λ names folder n there. absurd (cc);
}

pub file_put : (most : ℕ) (known : Option HostTree) (dir : List ℕ) (shown : List PathRow) (p : Path) (bytes : List ℕ)
    → ReadsEntry known (host_name dir p) most bytes → IsPut most known dir shown p (Some bytes) []
file_put most known dir shown p bytes read = record {
  distinct = tt;
  after = All-nil (λ q. path_precedes p q ≡ true);
  before = λ q before. All-nil (λ c. apart c q ≡ true);
  fit = All-nil (λ q. All IsHostName q);
  inside = All-nil (λ q. IsInside (shown ++ (record { path = p; bytes = Some bytes }) ∷ []) q);
  all = file_tree most known dir p bytes read;
}

-- ---- a folder

child_paths : (P : Path → Type 0) (p : Path) (names : List Name) → All (λ n. P (p ++ n ∷ [])) names → All P (children p names)
child_paths P p names h = All-map P (λ (n : Name). p ++ n ∷ []) names h

children_apart : (p : Path) (names : List Name) → NamesAreInOrder names → AreApart (children p names)
children_apart p [] rise = tt
children_apart p (n ∷ names) rise = (
  child_paths (λ (q : Path). apart (p ++ n ∷ []) q ≡ true) p names (All-weaker (λ (m : Name). precedes n m ≡ true)
      (λ (m : Name). apart (p ++ n ∷ []) (p ++ m ∷ []) ≡ true) (λ m before. apart_names p n m before) names rise.0),
  children_apart p names rise.1,
)

last_there : {X : Type 0} (xs : List X) (x : X) → Contains (xs ++ x ∷ []) x
last_there xs x = Contains-append_right xs (x ∷ []) x (0, omega arith, refl)

folder_tree : (most : ℕ) (known : Option HostTree) (dir : List ℕ) (p : Path) (names : List Name) → Lists known (host_name dir p) names
    → IfSome known (λ tree. IsBelow tree dir p) → IfSome known (λ tree. IsTreePut most dir p None (children p names) tree)
folder_tree most None dir p names h below = tt
folder_tree most (Some tree) dir p names (there, is, same) below = record {
  shows = rw is refl;
  waits = child_paths (IsBelow tree dir) p names (All-weaker (Contains there) (λ (n : Name). IsBelow tree dir (p ++ n ∷ []))
      (λ n inside. below_in tree dir p there n below is inside) names same.right);
  met = λ others folder n inside.
      let equal : others ≡ there = cc in
      let one : Contains there n = subst (λ (ns : List Name). Contains ns n) equal inside in
      let listed : Contains names n = subst (Contains names) one.2 (same.complete one.0 n one.1) in
      contains_mapped (λ (m : Name). p ++ m ∷ []) names n listed;
}

pub folder_put : (most : ℕ) (known : Option HostTree) (dir : List ℕ) (shown : List PathRow) (p : Path) (names : List Name) → NamesAreInOrder names
    → All IsHostName names → All IsHostName p → Lists known (host_name dir p) names → IfSome known (λ tree. IsBelow tree dir p)
    → IsPut most known dir shown p None (children p names)
folder_put most known dir shown p names rise fit fit_p listed below = record {
  distinct = children_apart p names rise;
  after = child_paths (λ (q : Path). path_precedes p q ≡ true) p names
      (every (λ (n : Name). path_precedes p (p ++ n ∷ []) ≡ true) names (λ n. below_precedes p n));
  before = λ q before. child_paths (λ (c : Path). apart c q ≡ true) p names
      (every (λ (n : Name). apart (p ++ n ∷ []) q ≡ true) names (λ n. apart_below p (n ∷ []) q before));
  fit = child_paths (λ (q : Path). All IsHostName q) p names (All-weaker IsHostName (λ (n : Name). All IsHostName (p ++ n ∷ []))
      (λ n one. All-push IsHostName p n fit_p one) names fit);
  inside = child_paths (λ (q : Path). IsInside (shown ++ folder_row p ∷ []) q) p names
      (every (λ (n : Name). IsInside (shown ++ folder_row p ∷ []) (p ++ n ∷ [])) names
      (λ n. inr (p, n, refl, last_there shown (folder_row p))));
  all = folder_tree most known dir p names listed below;
}
