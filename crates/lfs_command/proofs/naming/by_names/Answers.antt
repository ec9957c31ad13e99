-- A text that spells no path is one of the command's.
use Rattle.std.proofs.Common.{◌≡◌, ◌⊎◌, ℕ, List, [], ◌∷◌, All, get_or, refl, arith, ap, inl, inr, subst, sym, ◌∙◌}
use Rattle.std.specs.List.{Any}
use Rattle.std.proofs.lemmas.Result.{err_from_is_err_and}
use Rattle.lfs_meta.specs.Name.{IsName}
use Rattle.lfs_fs.specs.Path.{IsNoPath, Path}
use Rattle.lfs_command.specs.AskedFor.{asked_for}
use Rattle.lfs_command.specs.Command.{Put}
use Rattle.lfs_command.specs.declared.refusal.Refusal.{Refusal}
use Rattle.lfs_command.specs.declared.refusal.Refusal.TheVariants.{Memory, BadPath}
use Rattle.lfs_command.proofs.naming.by_names.Goals as goal

-- a refusal for a text is one for texts of which it is the first
first : (text : List ℕ) (texts : List (List ℕ)) (r : Refusal) → (r ≡ Memory) ⊎ ((r ≡ BadPath) × IsNoPath text)
    → (r ≡ Memory) ⊎ ((r ≡ BadPath) × Any IsNoPath (text ∷ texts))
first text texts r why = elim why [ inl memory ↦ inl memory | inr bad ↦ inr (bad.0, (0, text, omega arith, refl, bad.1)) ]

-- or the second
second : (front text : List ℕ) (texts : List (List ℕ)) (r : Refusal) → (r ≡ Memory) ⊎ ((r ≡ BadPath) × IsNoPath text)
    → (r ≡ Memory) ⊎ ((r ≡ BadPath) × Any IsNoPath (front ∷ text ∷ texts))
second front text texts r why = elim why [ inl memory ↦ inl memory | inr bad ↦ inr (bad.0, (1, text, omega arith, refl, bad.1)) ]

-- the names of the one path
one : (p : Path) → All IsName p → All (All IsName) (p ∷ [])
one p names k d less =
    let none : k ≡ 0 = omega (arith, less) in
    subst (λ (n : ℕ). All IsName (get_or (p ∷ []) n d)) (sym none) names

pub returns-in_err-path-in-Mkdir-clause-refused : goal.returns-in_err-path-in-Mkdir-clause-refused
returns-in_err-path-in-Mkdir-clause-refused c =
    let p = err_from_is_err_and c.from_residual.result c.from_residual.ensures.1 in
    rw (p.1, p.2, c.in-Mkdir.is) (first _ [] _ c.in_err-path-in-Mkdir.ensures.refused)

pub returns-in_err-path-in-Put-clause-refused : goal.returns-in_err-path-in-Put-clause-refused
returns-in_err-path-in-Put-clause-refused c =
    let p = err_from_is_err_and c.from_residual-in_err-path-in-Put.result c.from_residual-in_err-path-in-Put.ensures.1 in
    rw (p.1, p.2, c.in-Put.is) (first _ [] _ c.in_err-path-in-Put.ensures.refused)

pub returns-in_ok-path-in-Put-clause-spelled : goal.returns-in_ok-path-in-Put-clause-spelled
returns-in_ok-path-in-Put-clause-spelled c =
    let spelled = c.in_ok-path-in-Put.ensures.spelled in
    (one _ spelled.0, ap asked_for c.in-Put.is ∙ ap (λ (text : List ℕ). Put text c.in-Put.bytes.now c.in-Put.most) spelled.1)

pub returns-in_err-path-in-Rm-clause-refused : goal.returns-in_err-path-in-Rm-clause-refused
returns-in_err-path-in-Rm-clause-refused c =
    let p = err_from_is_err_and c.from_residual-in_err-path-in-Rm.result c.from_residual-in_err-path-in-Rm.ensures.1 in
    rw (p.1, p.2, c.in-Rm.is) (first _ [] _ c.in_err-path-in-Rm.ensures.refused)

pub returns-in_err-from-in-Mv-clause-refused : goal.returns-in_err-from-in-Mv-clause-refused
returns-in_err-from-in-Mv-clause-refused c =
    let p = err_from_is_err_and c.from_residual-in_err-from-in-Mv.result c.from_residual-in_err-from-in-Mv.ensures.1 in
    rw (p.1, p.2, c.in-Mv.is) (first _ (c.in-Mv.to.now ∷ []) _ c.in_err-from-in-Mv.ensures.refused)

pub returns-in_err-to-in-Mv-clause-refused : goal.returns-in_err-to-in-Mv-clause-refused
returns-in_err-to-in-Mv-clause-refused c =
    let p = err_from_is_err_and c.from_residual-in_err-to-in-Mv.result c.from_residual-in_err-to-in-Mv.ensures.1 in
    rw (p.1, p.2, c.in-Mv.is) (second _ _ [] _ c.in_err-to-in-Mv.ensures.refused)

pub returns-in_err-path-in-SetAttr-clause-refused : goal.returns-in_err-path-in-SetAttr-clause-refused
returns-in_err-path-in-SetAttr-clause-refused c =
    let p = err_from_is_err_and c.from_residual-in_err-path-in-SetAttr.result c.from_residual-in_err-path-in-SetAttr.ensures.1 in
    rw (p.1, p.2, c.in-SetAttr.is) (first _ [] _ c.in_err-path-in-SetAttr.ensures.refused)

pub returns-in_err-path-in-RmAttr-clause-refused : goal.returns-in_err-path-in-RmAttr-clause-refused
returns-in_err-path-in-RmAttr-clause-refused c =
    let p = err_from_is_err_and c.from_residual-in_err-path-in-RmAttr.result c.from_residual-in_err-path-in-RmAttr.ensures.1 in
    rw (p.1, p.2, c.in-RmAttr.is) (first _ [] _ c.in_err-path-in-RmAttr.ensures.refused)
