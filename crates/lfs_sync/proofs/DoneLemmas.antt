-- What commands make at one path, one after another.
use Rattle.std.proofs.Common.{◌≡◌, ℕ, Bool, true, false, List, [], ◌∷◌, ◌++◌, Option, Some, None, refl, ap, sym, ◌∙◌, inl, inr}
use Rattle.std.proofs.Common.{append-nil, append_assoc}
use Rattle.std.specs.Bool.{Decides}
use Rattle.std.specs.Prelude.{if◌then◌else◌}
use Rattle.std.specs.List.{AllByRecursion}
use Rattle.std.proofs.lemmas.List.{append_cancel_left}
use Rattle.std.proofs.lemmas.Slice.Eq.{bytes_eq-Decides}
use Rattle.lfs_meta.specs.Name.{Name}
use Rattle.lfs_fs.specs.Path.{Path}
use Rattle.lfs_fs.specs.Tree.{Node, File, Dir}
use Rattle.lfs_command.specs.Command.{Command, Mkdir, Put, Rm, Mv, SetAttr, RmAttr, Grow}
use Rattle.lfs_command.specs.Equation.{attributes_at, equation}
use Rattle.lfs_command.specs.PathMap.{below, same_path}
use Rattle.lfs_law.proofs.PathMapLemmas.{below_cases, below_longer, below_none, longer, same_path_decides}
use Rattle.lfs_sync.specs.Synced.{equations_of}

-- a directory is made, a file put or something removed
abbrev pub IsSimple : Command → Type 0
IsSimple (Mkdir p) = Unit {0}
IsSimple (Put p bytes most) = Unit {0}
IsSimple (Rm p) = Unit {0}
IsSimple (Mv p q) = ⊥
IsSimple (SetAttr p k value) = ⊥
IsSimple (RmAttr p k) = ⊥
IsSimple (Grow n) = ⊥

-- what such a command leaves at a path, of what was there
abbrev pub done_at : Path → Command → Option Node → Option Node
done_at path (Mkdir p) old = if same_path p path then Some (Dir []) else old
done_at path (Put p bytes most) old = if same_path p path then Some (File bytes (attributes_at old)) else old
done_at path (Rm p) old = if same_path p path then None else old
done_at path (Mv p q) old = old
done_at path (SetAttr p k value) old = old
done_at path (RmAttr p k) old = old
done_at path (Grow n) old = old

-- and what several leave
abbrev pub done_all : Path → List Command → Option Node → Option Node
done_all path [] old = old
done_all path (c ∷ cs) old = done_all path cs (done_at path c old)

put_by : (b : Bool) (p path : Path) (bytes : List ℕ) (tree : Path → Option Node) → (b ≡ true → p ≡ path)
    → (if b then Some (File bytes (attributes_at (tree p))) else tree path)
    ≡ (if b then Some (File bytes (attributes_at (tree path))) else tree path)
put_by true p path bytes tree same = ap (λ (q : Path). Some (File bytes (attributes_at (tree q)))) (same refl)
put_by false p path bytes tree same = refl

done_one : (c : Command) → IsSimple c → (tree : Path → Option Node) (path : Path) → equation c tree path ≡ done_at path c (tree path)
done_one (Mkdir p) simple tree path = refl
done_one (Put p bytes most) simple tree path = put_by (same_path p path) p path bytes tree (same_path_decides p path).0
done_one (Rm p) simple tree path = refl
done_one (Mv p q) simple tree path = absurd simple
done_one (SetAttr p k value) simple tree path = absurd simple
done_one (RmAttr p k) simple tree path = absurd simple
done_one (Grow n) simple tree path = absurd simple

pub done_is : (cs : List Command) → AllByRecursion IsSimple cs → (tree : Path → Option Node) (path : Path)
    → equations_of cs tree path ≡ done_all path cs (tree path)
done_is [] simple tree path = refl
done_is (c ∷ cs) simple tree path =
    done_is cs simple.1 (equation c tree) path ∙ ap (done_all path cs) (done_one c simple.0 tree path)

pub done_append : (path : Path) (xs ys : List Command) (old : Option Node) → done_all path (xs ++ ys) old
    ≡ done_all path ys (done_all path xs old)
done_append path [] ys old = refl
done_append path (c ∷ xs) ys old = done_append path xs ys (done_at path c old)

pub simple_append : (xs ys : List Command) → AllByRecursion IsSimple xs → AllByRecursion IsSimple ys → AllByRecursion IsSimple (xs ++ ys)
simple_append [] ys first second = second
simple_append (c ∷ xs) ys first second = (first.0, simple_append xs ys first.1 second)

-- paths below one path
pub same_behind : (at p q : Path) → same_path (at ++ p) (at ++ q) ≡ same_path p q
same_behind at p q = by (same_path (at ++ p) (at ++ q)) (same_path p q) (same_path_decides (at ++ p) (at ++ q)) (same_path_decides p q)
  where
    by : (b c : Bool) → Decides b (at ++ p ≡ at ++ q) → Decides c (p ≡ q) → b ≡ c
    by true true first second = refl
    by false false first second = refl
    by true false first second = sym (second.1 (append_cancel_left at p q (first.0 refl)))
    by false true first second = first.1 (ap (λ (l : Path). at ++ l) (second.0 refl))

-- a path at or below another isn't one that is elsewhere
pub other_outside : (at rest path : Path) → below at path ≡ None → same_path (at ++ rest) path ≡ false
other_outside at rest path outside = by (same_path (at ++ rest) path) (same_path_decides (at ++ rest) path)
  where
    by : (b : Bool) → Decides b (at ++ rest ≡ path) → b ≡ false
    by true decides = absurd (below_none at path rest outside (sym (decides.0 refl)))
    by false decides = refl

pub other_itself : (at path : Path) → below at path ≡ None → same_path at path ≡ false
other_itself at path outside =
    ap (λ (p : Path). same_path p path) (sym (append-nil at)) ∙ other_outside at [] path outside

pub other_longer : (p : Path) (n : Name) → same_path (p ++ n ∷ []) p ≡ false
other_longer p n = other_itself (p ++ n ∷ []) p (below_longer p n)

-- what lies below two paths that begin alike
pub below_behind : (prefix p q : Path) → below (prefix ++ p) (prefix ++ q) ≡ below p q
below_behind [] p q = refl
below_behind (n ∷ prefix) p q =
    ap (λ (b : Bool). if b then below (prefix ++ p) (prefix ++ q) else None) ((bytes_eq-Decides n n).1 refl) ∙ below_behind prefix p q

-- what isn't below a path isn't below a longer one
pub outside_longer : (prefix more path : Path) → below prefix path ≡ None → below (prefix ++ more) path ≡ None
outside_longer prefix more path outside = elim (below_cases (prefix ++ more) path) [
  | inl none ↦ none
  | inr (rest, is) ↦ absurd (below_none prefix path (more ++ rest) outside (is ∙ append_assoc prefix more rest))
]

pub same_itself : (p : Path) → same_path p p ≡ true
same_itself p = (same_path_decides p p).1 refl

-- a path isn't one of its extensions, nor one that it doesn't begin
pub other_by : (p q : Path) → (p ≡ q → ⊥) → same_path p q ≡ false
other_by p q other = by (same_path p q) (same_path_decides p q)
  where
    by : (b : Bool) → Decides b (p ≡ q) → b ≡ false
    by true decides = absurd (other (decides.0 refl))
    by false decides = refl

pub other_prefix : (to path : Path) → below path to ≡ None → same_path to path ≡ false
other_prefix to path outside =
    other_by to path (λ same. below_none path to [] outside (same ∙ sym (append-nil path)))

pub other_below : (to path : Path) (m : Name) (rest : Path) → to ≡ path ++ m ∷ rest → same_path to path ≡ false
other_below to path m rest is = other_by to path (λ same. longer path m rest (sym is ∙ same))
