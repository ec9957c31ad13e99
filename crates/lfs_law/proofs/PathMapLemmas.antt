-- What is at and below a path, and what a changed map has there.
use Rattle.std.proofs.Common.{◌≡◌, ◌⊎◌, Bool, true, false, [], ◌∷◌, ◌++◌, Option, Some, None, refl, ap, sym, ◌∙◌, arith, length}
use Rattle.std.proofs.Common.{length-append, append-nil, inl, inr}
use Rattle.std.specs.Prelude.{bytes_eq, if◌then◌else◌}
use Rattle.std.specs.Bool.{Decides}
use Rattle.std.specs.Option.{option_map}
use Rattle.std.proofs.lemmas.Bool.Decides.{Decides-and, Decides-like}
use Rattle.std.proofs.lemmas.Option.{none-some, same_Some}
use Rattle.std.proofs.lemmas.Slice.Eq.{bytes_eq-Decides}
use Rattle.lfs_meta.specs.Name.{Name}
use Rattle.lfs_fs.specs.Path.{Path}
use Rattle.lfs_command.specs.PathMap.{same_path, below, put_at_path, moved_by, moved}
use Rattle.lfs_law.proofs.Decided.{decided}

-- ---- paths

cons_parts : (n m : Name) (p q : Path) → n ∷ p ≡ m ∷ q → (n ≡ m) × (p ≡ q)
cons_parts n m p q h = (cc, cc)

pub same_path_decides : (p q : Path) → Decides (same_path p q) (p ≡ q)
same_path_decides [] [] = (λ _. refl, λ _. refl)
same_path_decides (n ∷ p) [] = (λ h. cc, λ h. cc)
same_path_decides [] (m ∷ q) = (λ h. cc, λ h. cc)
same_path_decides (n ∷ p) (m ∷ q) =
    Decides-like (same_path (n ∷ p) (m ∷ q)) (λ h. ap (λ x. x ∷ p) h.0 ∙ ap (λ x. m ∷ x) h.1) (cons_parts n m p q)
    (Decides-and (bytes_eq n m) (same_path p q) (bytes_eq-Decides n m) (same_path_decides p q))

pub same_path_or_not : (p q : Path) → (p ≡ q) ⊎ (p ≡ q → ⊥)
same_path_or_not p q = decided (same_path p q) (same_path_decides p q)

-- a path with something behind it isn't a front of itself
pub longer : (p : Path) (n : Name) (q : Path) → p ++ n ∷ q ≡ p → ⊥
longer p n q h = let same : length (p ++ n ∷ q) ≡ length p = ap length h in omega (arith, same, length-append p (n ∷ q))

pub no_names : (p : Path) (n : Name) (q : Path) → p ++ n ∷ q ≡ [] → ⊥
no_names p n q h = let same : length (p ++ n ∷ q) ≡ 0 = ap length h in omega (arith, same, length-append p (n ∷ q))

-- ---- what is left below a path

below_by : (same : Bool) (n m : Name) (ns path rest : Path) → (same ≡ true → n ≡ m) → (below ns path ≡ Some rest → path ≡ ns ++ rest)
    → (if same then below ns path else None) ≡ Some rest → m ∷ path ≡ n ∷ (ns ++ rest)
below_by true n m ns path rest is more h = ap (λ x. x ∷ path) (sym (is refl)) ∙ ap (λ x. n ∷ x) (more h)
below_by false n m ns path rest is more h = absurd (none-some rest h)

pub below_some : (at path rest : Path) → below at path ≡ Some rest → path ≡ at ++ rest
below_some [] path rest h = same_Some path rest h
below_some (n ∷ ns) [] rest h = absurd (none-some rest h)
below_some (n ∷ ns) (m ∷ path) rest h = below_by (bytes_eq n m) n m ns path rest (bytes_eq-Decides n m).0 (below_some ns path rest) h

pub below-append : (at rest : Path) → below at (at ++ rest) ≡ Some rest
below-append [] rest = refl
below-append (n ∷ ns) rest = ap (λ (b : Bool). if b then below ns (ns ++ rest) else None) ((bytes_eq-Decides n n).1 refl)
    ∙ below-append ns rest

pub below_self : (at : Path) → below at at ≡ Some []
below_self at = ap (below at) (sym (append-nil at)) ∙ below-append at []

front_by : (same : Bool) (ns path more : Path) → (below ns (path ++ more) ≡ None → below ns path ≡ None)
    → (if same then below ns (path ++ more) else None) ≡ None
    → (if same then below ns path else None) ≡ None
front_by true ns path more f h = f h
front_by false ns path more f h = refl

-- what doesn't lie at or below a path has no front that does
pub below_front : (at path more : Path) → below at (path ++ more) ≡ None → below at path ≡ None
below_front [] path more h = absurd (none-some (path ++ more) (sym h))
below_front (n ∷ ns) [] more h = refl
below_front (n ∷ ns) (m ∷ path) more h = front_by (bytes_eq n m) ns path more (below_front ns path more) h

pub below_none : (at path rest : Path) → below at path ≡ None → path ≡ at ++ rest → ⊥
below_none at path rest h is = none-some rest (sym h ∙ ap (below at) is ∙ below-append at rest)

none_or_some : {X : Type 0} (o : Option X) → (o ≡ None) ⊎ ((x : X) × (o ≡ Some x))
none_or_some None = inl refl
none_or_some (Some x) = inr (x, refl)

-- a path lies at or below another, or it doesn't
pub below_cases : (at path : Path) → (below at path ≡ None) ⊎ ((rest : Path) × (path ≡ at ++ rest))
below_cases at path = elim (none_or_some (below at path)) [
  | inl none ↦ inl none
  | inr some ↦ inr
      (some.0, below_some at path some.0 some.1)
]

-- no path lies below itself with a name more
pub below_longer : (p : Path) (n : Name) → below (p ++ n ∷ []) p ≡ None
below_longer [] n = refl
below_longer (m ∷ p) n = ap (λ (b : Bool). if b then below (p ++ n ∷ []) p else None) ((bytes_eq-Decides m m).1 refl) ∙ below_longer p n

-- ---- changed maps

pub put_at_there : {X : Type 0} (at : Path) (x : Option X) (tree : Path → Option X) → put_at_path at x tree at ≡ x
put_at_there at x tree = ap (λ (b : Bool). if b then x else tree at) ((same_path_decides at at).1 refl)

put_by : {X : Type 0} (b : Bool) (x y : Option X) → (b ≡ true → ⊥) → (if b then x else y) ≡ y
put_by true x y h = absurd (h refl)
put_by false x y h = refl

pub put_at_other : {X : Type 0} (at : Path) (x : Option X) (tree : Path → Option X) (path : Path) → (at ≡ path → ⊥)
    → put_at_path at x tree path ≡ tree path
put_at_other at x tree path different = put_by (same_path at path) x (tree path) (λ h. different ((same_path_decides at path).0 h))

mapped_by : {X Y : Type 0} (f : X → Y) (b : Bool) (x y : Option X) → option_map f (if b then x else y)
    ≡ (if b then option_map f x else option_map f y)
mapped_by f true x y = refl
mapped_by f false x y = refl

-- a map through which the values go
pub put_at_mapped : {X Y : Type 0} (f : X → Y) (at : Path) (x : Option X) (tree : Path → Option X) (path : Path)
    → option_map f (put_at_path at x tree path) ≡ put_at_path at (option_map f x) (λ p. option_map f (tree p)) path
put_at_mapped f at x tree path = mapped_by f (same_path at path) x (tree path)

-- at the new path and below it
pub moved_to : {X : Type 0} (from to rest : Path) (tree : Path → Option X) → moved from to tree (to ++ rest) ≡ tree (from ++ rest)
moved_to from to rest tree = ap (λ (o : Option Path). moved_by from tree (to ++ rest) o (below from (to ++ rest))) (below-append to rest)

-- at the old path and below it, where that isn't below the new one
pub moved_away : {X : Type 0} (from to rest : Path) (tree : Path → Option X) → below to (from ++ rest) ≡ None
    → moved from to tree (from ++ rest) ≡ None
moved_away from to rest tree outside =
    ap (λ (o : Option Path). moved_by from tree (from ++ rest) o (below from (from ++ rest))) outside
    ∙ ap (moved_by from tree (from ++ rest) None) (below-append from rest)

-- elsewhere
pub moved_other : {X : Type 0} (from to path : Path) (tree : Path → Option X) → below to path ≡ None → below from path ≡ None
    → moved from to tree path ≡ tree path
moved_other from to path tree outside away =
    ap (λ (o : Option Path). moved_by from tree path o (below from path)) outside ∙ ap (moved_by from tree path None) away
