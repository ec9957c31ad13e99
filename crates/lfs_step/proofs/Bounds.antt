-- The bound for the bytes that stand in an entry changes no tree, no path and no text.
use Rattle.std.proofs.Common.{◌≡◌, ◌∙◌, ℕ, List, [], ◌∷◌, All, Option, map, refl, ap, inl, inr}
use Rattle.std.proofs.lemmas.List.Elements.{All-map, All-weaker}
use Rattle.lfs_fs.specs.Limits.{most_held}
use Rattle.lfs_fs.specs.Path.{Path, path_text}
use Rattle.lfs_fs.specs.Tree.{Node}
use Rattle.lfs_command.specs.Command.{Asked, Command, HasNames, Mkdir, Put, Rm, Mv, SetAttr, RmAttr, Grow, bounded, on_paths}
use Rattle.lfs_command.specs.Equation.{equation}
use Rattle.lfs_sync.specs.Planned.{in_texts, kind_asked, plan_asked, planned_asked}
use Rattle.lfs_sync.specs.Synced.{equations_of}
use Rattle.lfs_sync.specs.declared.planned.Planned.{Planned}
use Rattle.lfs_sync.specs.declared.planned.PlannedKind.{PlannedKind}
use Rattle.lfs_sync.specs.declared.planned.PlannedKind.TheVariants as kind
use Rattle.lfs_sync.specs.declared.sync_row.SyncRow.{SyncRow}
use Rattle.lfs_step.specs.TreeChanging.{IsAskedOf}

-- no tree
same_equation : (most : ℕ) (c : Command) (t : Path → Option Node) → equation (bounded most c) t ≡ equation c t
same_equation most (Mkdir p) t = refl
same_equation most (Put p bytes old) t = refl
same_equation most (Rm p) t = refl
same_equation most (Mv p q) t = refl
same_equation most (SetAttr p k value) t = refl
same_equation most (RmAttr p k) t = refl
same_equation most (Grow n) t = refl

pub same_equations : (most : ℕ) (cs : List Command) (t : Path → Option Node) → equations_of (map (bounded most) cs) t ≡ equations_of cs t
same_equations most [] t = refl
same_equations most (c ∷ cs) t =
    ap (equations_of (map (bounded most) cs)) (same_equation most c t) ∙ same_equations most cs (equation c t)

-- no path
one_named : (most : ℕ) (c : Command) → HasNames c → HasNames (bounded most c)
one_named most (Mkdir p) names = names
one_named most (Put p bytes old) names = names
one_named most (Rm p) names = names
one_named most (Mv p q) names = names
one_named most (SetAttr p k value) names = names
one_named most (RmAttr p k) names = names
one_named most (Grow n) names = names

pub bounded_named : (most : ℕ) (cs : List Command) → All HasNames cs → All HasNames (map (bounded most) cs)
bounded_named most cs names =
    All-map HasNames (bounded most) cs (All-weaker HasNames (λ (c : Command). HasNames (bounded most c)) (one_named most) cs names)

-- no text
one_text : (most : ℕ) (c : Command) → bounded most (on_paths path_text c) ≡ on_paths path_text (bounded most c)
one_text most (Mkdir p) = refl
one_text most (Put p bytes old) = refl
one_text most (Rm p) = refl
one_text most (Mv p q) = refl
one_text most (SetAttr p k value) = refl
one_text most (RmAttr p k) = refl
one_text most (Grow n) = refl

same_texts : (most : ℕ) (cs : List Command) → map (bounded most) (in_texts cs) ≡ in_texts (map (bounded most) cs)
same_texts most [] = refl
same_texts most (c ∷ cs) =
    ap (λ (a : Asked). a ∷ map (bounded most) (in_texts cs)) (one_text most c)
    ∙ ap (λ (l : List Asked). on_paths path_text (bounded most c) ∷ l) (same_texts most cs)

-- what is asked for with a bound is what is asked for, with the bound
pub bounded_asked : (most : ℕ) (text : List ℕ) (wrong : Asked) (commands : Path → List Command) (asked : List Asked)
    → IsAskedOf text wrong commands asked
    → IsAskedOf text (bounded most wrong) (λ (path : Path). map (bounded most) (commands path)) (map (bounded most) asked)
bounded_asked most text wrong commands asked (inl (path, spelled, are)) =
    inl (path, spelled, ap (map (bounded most)) are ∙ same_texts most (commands path))
bounded_asked most text wrong commands asked (inr (none, are)) = inr (none, ap (map (bounded most)) are)

-- what a plan asks for has the greatest bound already
one_bound : (rows : List SyncRow) (text : List ℕ) (k : PlannedKind) → bounded most_held (kind_asked rows text k) ≡ kind_asked rows text k
one_bound rows text kind.Removal = refl
one_bound rows text kind.Directory = refl
one_bound rows text (kind.File place) = refl

pub same_bound : (rows : List SyncRow) (plan : List Planned) → map (bounded most_held) (plan_asked rows plan) ≡ plan_asked rows plan
same_bound rows [] = refl
same_bound rows (p ∷ plan) =
    ap (λ (a : Asked). a ∷ map (bounded most_held) (plan_asked rows plan)) (one_bound rows p.text.items p.kind)
    ∙ ap (λ (l : List Asked). planned_asked rows p ∷ l) (same_bound rows plan)
