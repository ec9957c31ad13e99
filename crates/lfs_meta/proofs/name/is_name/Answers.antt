-- The last of four tests decides, where the others don't.
use Rattle.std.proofs.Common.{◌≡◌, length, sym, ◌∙◌, not, true, false, Bool, nat_lt, bytes_eq, ◌==◌, [], ◌∷◌, arith, ap, refl}
use Rattle.std.specs.List.{list_all}
use Rattle.std.proofs.lemmas.Bool.Decides.{nat_tests}
use Rattle.lfs_meta.specs.Name.{Name, is_name}
use Rattle.lfs_meta.proofs.name.is_name.Goals as goal

last : (n : Name) (slashless dot dots : Bool) → (length n == 0) ≡ false → slashless ≡ list_all (λ b. not (b == 47)) n → slashless ≡ true
    → dot ≡ bytes_eq n (46 ∷ []) → dot ≡ false → dots ≡ bytes_eq n (46 ∷ 46 ∷ []) → not dots ≡ is_name n
last n slashless dot dots some' slashless_is slash dot_is no_dot dots_is =
    let long : nat_lt 0 (length n) ≡ true = grind (arith, nat_tests) in
    let no_slash : list_all (λ b. not (b == 47)) n ≡ true = sym slashless_is ∙ slash in
    let no_dot_is : bytes_eq n (46 ∷ []) ≡ false = sym dot_is ∙ no_dot in
    rw (dots_is, long, no_slash, no_dot_is) refl

pub returns-then-not-is_dot : goal.returns-then-not-is_dot
returns-then-not-is_dot c =
    last c.args.name.now c.has_no_slash-has_slash.result c.eq-is_dot.result c.eq-is_dots.result
    (sym c.is_empty-is_some.ensures ∙ c.if-not-is_dot.true.0) c.has_no_slash-has_slash.ensures c.if-not-is_dot.true.1
    (c.eq-is_dot.ensures ∙ ap (bytes_eq c.args.name.now) c.as_slice.ensures) c.if-not-is_dot.true.2
    (c.eq-is_dots.ensures ∙ ap (bytes_eq c.args.name.now) c.as_slice-2.ensures)
