-- A host's names of paths below a folder, and what is below one.
use Rattle.std.proofs.Common.{◌≡◌, ℕ, List, [], ◌∷◌, ◌++◌, refl, ap, sym, ◌∙◌, subst, arith, append_assoc, length, get_or}
use Rattle.std.specs.Prelude.{flat_map}
use Rattle.std.specs.List.{All, Contains}
use Rattle.std.proofs.Math.Seq.{drop-append_seam}
use Rattle.std.proofs.lemmas.Grind.{flat_map-append}
use Rattle.std.proofs.lemmas.List.{append-nil, get_or-map, length-map}
use Rattle.lfs_meta.specs.Name.{Name}
use Rattle.lfs_fs.specs.Path.{Path, path_text}
use Rattle.lfs_host.specs.HostTree.{HostTree, FolderOf}
use Rattle.lfs_extract.specs.PathBelow.{name_in, host_name, or_root, text_below}
use Rattle.lfs_extract.specs.FolderRows.{PathRow, folder_row, paths_of, IsBelow}
use Rattle.lfs_extract.specs.FolderWalk.{IsMet}

-- a slash before each name
abbrev slashed : Name → List ℕ
slashed n = 47 ∷ n

text_of : (p : Path) → or_root (flat_map slashed p) ≡ path_text p
text_of [] = refl
text_of (n ∷ p) = refl

-- what a host's name has behind the folder's is the path's text
pub text_is : (dir : List ℕ) (p : Path) → text_below (length dir) (host_name dir p) ≡ path_text p
text_is dir p = ap or_root (drop-append_seam dir (flat_map slashed p)) ∙ text_of p

pub name_of_root : (dir : List ℕ) → host_name dir [] ≡ dir
name_of_root dir = append-nil dir

-- the host's name of what is in a folder
pub name_below : (dir : List ℕ) (p : Path) (n : Name) → host_name dir (p ++ n ∷ []) ≡ name_in (host_name dir p) n
name_below dir p n = ap (λ (t : List ℕ). dir ++ t) (flat_map-append slashed p (n ∷ []) ∙ ap (λ (t : List ℕ). flat_map slashed p ++ t)
    (append-nil (slashed n))) ∙ sym (append_assoc dir (flat_map slashed p) (slashed n))

-- and of what is below one in it
name_beyond : (name : List ℕ) (n : Name) (p : Path) → host_name name (n ∷ p) ≡ host_name (name_in name n) p
name_beyond name n p = sym (append_assoc name (slashed n) (flat_map slashed p))

-- what is in a folder below is below
pub below_in : (tree : HostTree) (name : List ℕ) (p : Path) (names : List Name) (n : Name) → IsBelow tree name p
    → tree (host_name name p) ≡ FolderOf names → Contains names n → IsBelow tree name (p ++ n ∷ [])
below_in tree name [] names n h is there = (names, ap tree (sym (name_of_root name)) ∙ is, there, tt)
below_in tree name (m ∷ p) names n (ms, folder, inside, rest) is there =
    (ms, folder, inside, below_in tree (name_in name m) p names n rest (ap tree (sym (name_beyond name m p)) ∙ is) there)

-- from a path that is met on, all that is below is met
pub all_met : (tree : HostTree) (dir : List ℕ) (shown : List PathRow) → All (IsMet tree dir (paths_of shown)) shown → (p q : Path)
    → Contains (paths_of shown) p → IsBelow tree (host_name dir p) q → Contains (paths_of shown) (p ++ q)
all_met tree dir shown met p [] there h = subst (Contains (paths_of shown)) (sym (append-nil p)) there
all_met tree dir shown met p (n ∷ q) (i, within, is) (names, folder, inside, rest) =
    let len : length (paths_of shown) ≡ length shown = length-map shown (λ (r : PathRow). r.path) in
    let row : PathRow = get_or shown i (folder_row p) in
    let path : row.path ≡ p = sym (get_or-map (λ (r : PathRow). r.path) shown i (folder_row p) p (omega arith)) ∙ is in
    let here : IsMet tree dir (paths_of shown) row = met i (folder_row p) (omega arith) in
    let child : Contains (paths_of shown) (row.path ++ n ∷ []) =
    here names (ap (λ (x : Path). tree (host_name dir x)) path ∙ folder) n inside in
    let moved : Contains (paths_of shown) (p ++ n ∷ []) = subst (λ (x : Path). Contains (paths_of shown) (x ++ n ∷ [])) path child in
    let beyond : IsBelow tree (host_name dir (p ++ n ∷ [])) q = subst (λ (x : List ℕ). IsBelow tree x q) (sym (name_below dir p n)) rest in
    subst (Contains (paths_of shown)) (append_assoc p (n ∷ []) q) (all_met tree dir shown met (p ++ n ∷ []) q moved beyond)
