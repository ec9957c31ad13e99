-- What stands before the `k` are the digits.
use Rattle.std.proofs.Common.{◌∙◌, ◌++◌, List, ℕ, codes, ap, inl, refl, sym}
use Rattle.lfs_texts.proofs.sizes.split_unit.Goals as goal

pub returns-in-Some : goal.returns-in-Some
returns-in-Some c =
    let front = c.in-Some.ensures.cases in
    record { unit = inl (front.1.1 ∙ ap (λ (digits : List ℕ). digits ++ codes "k") (sym front.2), refl) }
