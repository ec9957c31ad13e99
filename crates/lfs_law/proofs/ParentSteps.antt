-- Where a path's last name belongs to, by the walk to it.
use Rattle.std.proofs.Common.{◌≡◌, false, List, [], ◌∷◌, ◌++◌, Option, Some, None, refl, ap, ◌∙◌, map, Bor}
use Rattle.std.specs.Option.{option_and_then, option_map}
use Rattle.std.proofs.lemmas.List.{map-append}
use Rattle.lfs_meta.specs.Name.{Name}
use Rattle.lfs_meta.specs.Body.{Pair}
use Rattle.lfs_fs.specs.Pair.{root}
use Rattle.lfs_fs.specs.Path.{Path}
use Rattle.lfs_fs.specs.Tree.{tree}
use Rattle.lfs_fs.specs.Volume.{Volume}
use Rattle.lfs_command.specs.declared.refusal.Refusal.{Refusal}
use Rattle.lfs_command.specs.declared.refusal.Refusal.TheVariants.{IsRoot}
use Rattle.lfs_command.specs.Parent.{split_last, behind_name, parent_of}
use Rattle.lfs_law.specs.ParentChecks.{parent_checks}
use Rattle.lfs_law.specs.PairWalk.{pair_at, directory_name}
use Rattle.lfs_command.specs.Verdict.{first_refusal, refuse_if, is_root, walk_refusal}
use Rattle.lfs_law.specs.WalkRefusal.{walk_all}
use Rattle.lfs_law.proofs.PairWalks.{walks_go_by_pairs, walks_are_refused_by_pairs}

pub split_behind : (front : Path) (n : Name) → split_last (front ++ n ∷ []) ≡ Some (front, n)
split_behind [] n = refl
split_behind (m ∷ front) n = ap (behind_name m) (split_behind front n)

pub no_root : (front : Path) (n : Name) → is_root (front ++ n ∷ []) ≡ false
no_root [] n = refl
no_root (m ∷ front) n = refl

-- names are those of a front and a last one
pub names_are : (ns fs : List (Bor Name)) (n : Bor Name) → ns ≡ fs ++ n ∷ []
    → map (λ (x : Bor Name). x.now) ns ≡ map (λ x. x.now) fs ++ n.now ∷ []
names_are ns fs n are = ap (map (λ (x : Bor Name). x.now)) are ∙ map-append (λ (x : Bor Name). x.now) fs (n ∷ [])

-- the walk to the name's directory comes there
pub is_parent : (v : Volume) (path front : Path) (n : Name) (k : Pair) → path ≡ front ++ n ∷ [] → pair_at v.directories root front ≡ Some k
    → parent_of v path ≡ Some (k, n)
is_parent v path front n k is leads =
    ap (parent_of v) is ∙ (walks_go_by_pairs v).parent (front ++ n ∷ [])
    ∙ ap (option_and_then (directory_name v.directories)) (split_behind front n)
    ∙ ap (option_map (λ (j : Pair). (j, n))) leads

checked : (v : Volume) (path front : Path) (n : Name) → path ≡ front ++ n ∷ []
    → first_refusal (parent_checks v path) ≡ first_refusal (walk_all v.directories root front ∷ [])
checked v path front n is =
    ap (λ (p : Path). first_refusal (parent_checks v p)) is
    ∙ ap (λ b. first_refusal (refuse_if b IsRoot ∷ walk_refusal (tree v) [] (front ++ n ∷ []) ∷ [])) (no_root front n)
    ∙ ap (λ (o : Option Refusal). first_refusal (o ∷ [])) ((walks_are_refused_by_pairs v).all front n)

pub unrefused : (v : Volume) (path front : Path) (n : Name) → path ≡ front ++ n ∷ [] → walk_all v.directories root front ≡ None
    → first_refusal (parent_checks v path) ≡ None
unrefused v path front n is none = checked v path front n is ∙ ap (λ (o : Option Refusal). first_refusal (o ∷ [])) none

pub refused : (v : Volume) (path front : Path) (n : Name) (r : Refusal) → path ≡ front ++ n ∷ []
    → walk_all v.directories root front ≡ Some r → first_refusal (parent_checks v path) ≡ Some r
refused v path front n r is refuses = checked v path front n is ∙ ap (λ (o : Option Refusal). first_refusal (o ∷ [])) refuses
