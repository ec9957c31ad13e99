-- What is removed with all below it is gone.
use Rattle.std.proofs.Common.{◌≡◌, Bool, List, [], ◌∷◌, ◌++◌, Option, Some, None, refl, ap, sym, ◌∙◌, subst, inl, inr}
use Rattle.std.specs.Prelude.{if◌then◌else◌, is_some, reverse}
use Rattle.std.specs.List.{filter}
use Rattle.lfs_fs.specs.Path.{Path}
use Rattle.lfs_fs.specs.Tree.{Node}
use Rattle.lfs_command.specs.PathMap.{below, same_path}
use Rattle.lfs_law.proofs.PathMapLemmas.{below-append, below_cases}
use Rattle.lfs_sync.specs.Shown.{AreHeld, Shown, shown_at}
use Rattle.lfs_sync.specs.Synced.{equations_of, goes, remove_by, removals, without_below}
use Rattle.lfs_sync.specs.SyncLaws.{RemovedIsWithout}
use Rattle.lfs_sync.proofs.DoneLemmas.{done_all, done_is, other_itself}
use Rattle.lfs_sync.proofs.ShownLemmas.{some_reverse}
use Rattle.lfs_sync.proofs.SyncedLemmas.{none_either, removing_elsewhere, removing_simple, removing_there}

-- all rows go
pub all_go : (rs : List Shown) → filter (goes []) rs ≡ rs
all_go [] = refl
all_go (r ∷ rs) = ap (λ (l : List Shown). r ∷ l) (all_go rs)

without_outside : (at path : Path) (tree : Path → Option Node) → below at path ≡ None → tree path ≡ without_below at tree path
without_outside at path tree outside = ap (λ (o : Option Path). if is_some o then None else tree path) (sym outside)

pub without_inside : (at rest : Path) (tree : Path → Option Node) → None ≡ without_below at tree (at ++ rest)
without_inside at rest tree = ap (λ (o : Option Path). if is_some o then None else tree (at ++ rest)) (sym (below-append at rest))

none_left : (old : Option Node) → (if is_some old then None else old) ≡ None
none_left None = refl
none_left (Some x) = refl

-- where nothing is, nothing goes
nothing_there : (at : Path) (tree : Path → Option Node) → AreHeld tree at [] → (path : Path)
    → equations_of (remove_by at []) tree path ≡ without_below at tree path
nothing_there at tree are path = elim (below_cases at path) [
  | inl outside ↦
      ap (λ (b : Bool). if b then None else tree path) (other_itself at path outside) ∙ without_outside at path tree outside
  | inr (rest, is) ↦ subst (λ (p : Path). equations_of (remove_by at []) tree p ≡ without_below at tree p) (sym is) (inside rest)
]
  where
    inside : (rest : Path) → equations_of (remove_by at []) tree (at ++ rest) ≡ without_below at tree (at ++ rest)
    inside rest = none_either (same_path at (at ++ rest)) (tree (at ++ rest)) (sym (are.complete rest)) ∙ without_inside at rest tree

some_there : (at : Path) (tree : Path → Option Node) (r : Shown) (rs : List Shown) → AreHeld tree at (r ∷ rs) → (path : Path)
    → equations_of (removals at (r ∷ rs) []) tree path ≡ without_below at tree path
some_there at tree r rs are path =
    done_is (removals at (r ∷ rs) []) (removing_simple at (reverse (filter (goes []) (r ∷ rs)))) tree path
    ∙ elim (below_cases at path) [
      | inl outside ↦ removing_elsewhere at path (reverse (filter (goes []) (r ∷ rs))) (tree path) outside ∙ without_outside at path tree outside
      | inr (rest, is) ↦ subst (λ (p : Path). done_all p (removals at (r ∷ rs) []) (tree p) ≡ without_below at tree p) (sym is) (inside rest)
    ]
  where
    inside : (rest : Path) → done_all (at ++ rest) (removals at (r ∷ rs) []) (tree (at ++ rest)) ≡ without_below at tree (at ++ rest)
    inside rest =
        removing_there at rest (reverse (filter (goes []) (r ∷ rs))) (tree (at ++ rest))
        ∙ ap (λ (b : Bool). if b then None else tree (at ++ rest))
        (some_reverse rest (filter (goes []) (r ∷ rs)) ∙ ap (λ (l : List Shown). is_some (shown_at l rest)) (all_go (r ∷ rs))
        ∙ ap (λ (o : Option Node). is_some o) (are.complete rest))
        ∙ none_left (tree (at ++ rest)) ∙ without_inside at rest tree

pub removed_is_without : RemovedIsWithout
removed_is_without tree n at [] are path = nothing_there (n ∷ at) tree are path
removed_is_without tree n at (r ∷ rs) are path = some_there (n ∷ at) tree r rs are path
