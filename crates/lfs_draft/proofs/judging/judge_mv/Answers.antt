-- What the checks of either path refuse refuses the move.
use Rattle.std.proofs.Common.{◌≡◌, ◌==◌, Bool, false, List, [], ◌∷◌, Option, Some, None, length, map, refl, ap, sym, ◌∙◌, Bor}
use Rattle.std.specs.Prelude.{◌||◌, is_none, is_some, nat_lt}
use Rattle.std.proofs.lemmas.Option.{none-some}
use Rattle.std.proofs.lemmas.Result.{err_from_is_err_and}
use Rattle.lfs_meta.specs.Name.{Name}
use Rattle.lfs_fs.specs.Path.{Path}
use Rattle.lfs_fs.specs.Tree.{tree}
use Rattle.lfs_fs.specs.Volume.{Volume}
use Rattle.lfs_command.specs.Command.{Mkdir, Mv}
use Rattle.lfs_command.specs.declared.refusal.Refusal.{Refusal}
use Rattle.lfs_command.specs.declared.refusal.Refusal.TheVariants.{Exists, IntoItself, IsRoot, NameTooLong, NotFound}
use Rattle.lfs_command.specs.Verdict.{checks, first_refusal, is_root, last_length, lies_below, refuse_if, walk_refusal}
use Rattle.lfs_law.specs.ParentChecks.{entry_checks, there_checks}
use Rattle.lfs_draft.proofs.judging.judge_mv.Goals as goal

-- a path of some names isn't the root's
not_root : (ns : List (Bor Name)) → (length ns == 0) ≡ false → is_root (map (λ (n : Bor Name). n.now) ns) ≡ false
not_root [] some = cc
not_root (n ∷ ns) some = refl

-- what two checks refuse is refused with others behind them
refused_early : (a b : Option Refusal) (more : List (Option Refusal)) (r : Refusal) → first_refusal (a ∷ b ∷ []) ≡ Some r
    → first_refusal (a ∷ b ∷ more) ≡ Some r
refused_early None None more r refused = absurd (none-some r refused)
refused_early None (Some x) more r refused = refused
refused_early (Some x) b more r refused = refused

-- else the others decide
refused_later : (a b : Option Refusal) (more : List (Option Refusal)) → first_refusal (a ∷ b ∷ []) ≡ None
    → first_refusal (a ∷ b ∷ more) ≡ first_refusal more
refused_later None None more passed = refl
refused_later None (Some x) more passed = absurd (none-some x (sym passed))
refused_later (Some x) b more passed = absurd (none-some x (sym passed))

-- the checks of a path where something is made, the first one aside
abbrev made_checks : Volume → Path → List (Option Refusal)
made_checks o q =
    walk_refusal (tree o) [] q
    ∷ refuse_if (is_some (tree o q)) Exists
    ∷ refuse_if (nat_lt o.limits.name (last_length q)) NameTooLong
    ∷ []

-- the checks of a move, where neither path is the root's
moved : (o : Volume) (p q : Path) → is_root p ≡ false → is_root q ≡ false
    → first_refusal (checks o (Mv p q)) ≡ first_refusal (walk_refusal (tree o) [] p ∷ refuse_if (is_none (tree o p)) NotFound
    ∷ refuse_if (lies_below p q) IntoItself ∷ made_checks o q)
moved o p q first second =
    ap (λ (b : Bool). first_refusal (refuse_if b IsRoot ∷ walk_refusal (tree o) [] p ∷ refuse_if (is_none (tree o p)) NotFound
    ∷ refuse_if (lies_below p q) IntoItself ∷ made_checks o q)) (ap (λ (b : Bool). b || is_root q) first ∙ second)

there : (o : Volume) (p : Path) → is_root p ≡ false → first_refusal (there_checks o p) ≡ first_refusal (entry_checks o p)
there o p first = ap (λ (b : Bool). first_refusal (refuse_if b IsRoot ∷ there_checks o p)) (sym first)

source_refused : (o : Volume) (p q : Path) (r : Refusal) → is_root p ≡ false → is_root q ≡ false → first_refusal (entry_checks o p) ≡ Some r
    → first_refusal (checks o (Mv p q)) ≡ Some r
source_refused o p q r first second refused =
    moved o p q first second
    ∙ refused_early (walk_refusal (tree o) [] p) (refuse_if (is_none (tree o p)) NotFound)
    (refuse_if (lies_below p q) IntoItself ∷ made_checks o q) r (there o p first ∙ refused)

target_refused : (o : Volume) (p q : Path) (r : Refusal) → is_root p ≡ false → is_root q ≡ false → first_refusal (entry_checks o p) ≡ None
    → lies_below p q ≡ false → first_refusal (checks o (Mkdir q)) ≡ Some r → first_refusal (checks o (Mv p q)) ≡ Some r
target_refused o p q r first second passed apart refused =
    moved o p q first second
    ∙ refused_later (walk_refusal (tree o) [] p) (refuse_if (is_none (tree o p)) NotFound)
    (refuse_if (lies_below p q) IntoItself ∷ made_checks o q) (there o p first ∙ passed)
    ∙ ap (λ (b : Bool). first_refusal (refuse_if b IntoItself ∷ made_checks o q)) apart
    ∙ ap (λ (b : Bool). first_refusal (refuse_if b IsRoot ∷ made_checks o q)) (sym second)
    ∙ refused

pub returns-in_err-entry_there-clause-refused : goal.returns-in_err-entry_there-clause-refused
returns-in_err-entry_there-clause-refused c =
    let p = err_from_is_err_and c.from_residual.result c.from_residual.ensures.1 in
    rw (p.1, p.2) (
    source_refused c.args.outline.now (map (λ (n : Bor Name). n.now) c.args.from.now) (map (λ (n : Bor Name). n.now) c.args.to.now)
    c.in_err-entry_there.field-0.0 (not_root c.args.from.now (sym c.is_empty.ensures ∙ c.if-is_empty.false))
    (not_root c.args.to.now (sym c.is_empty-else-is_empty.ensures ∙ c.if-is_empty-2.false)) c.in_err-entry_there.ensures.refused)

pub returns-in_err-judge_new-clause-refused : goal.returns-in_err-judge_new-clause-refused
returns-in_err-judge_new-clause-refused c =
    let p = err_from_is_err_and c.from_residual-in_err-judge_new.result c.from_residual-in_err-judge_new.ensures.1 in
    rw (p.1, p.2) (
    target_refused c.args.outline.now (map (λ (n : Bor Name). n.now) c.args.from.now) (map (λ (n : Bor Name). n.now) c.args.to.now)
    c.in_err-judge_new.field-0.0 (not_root c.args.from.now (sym c.is_empty.ensures ∙ c.if-is_empty.false))
    (not_root c.args.to.now (sym c.is_empty-else-is_empty.ensures ∙ c.if-is_empty-2.false)) c.in_ok-entry_there.ensures.unrefused
    (sym c.lies_below.ensures ∙ c.if-lies_below.false) c.in_err-judge_new.ensures.refused)

pub returns-in_err-entry_there-clause-unrefused : goal.returns-in_err-entry_there-clause-unrefused
returns-in_err-entry_there-clause-unrefused c = rw (err_from_is_err_and c.from_residual.result c.from_residual.ensures.1).1 tt

pub returns-in_err-judge_new-clause-unrefused : goal.returns-in_err-judge_new-clause-unrefused
returns-in_err-judge_new-clause-unrefused c =
    rw (err_from_is_err_and c.from_residual-in_err-judge_new.result c.from_residual-in_err-judge_new.ensures.1).1 tt
