-- Attributes compared one by one.
use Rattle.std.proofs.Common.{◌≡◌, ℕ, ◌+◌, ◌≤◌, [], ◌∷◌, length, drop, nat_eq, ap, sym, ◌∙◌, arith}
use Rattle.std.proofs.Common.{length-drop}
use Rattle.std.proofs.lemmas.Bool.{eq-eqb, ne_eqb}
use Rattle.std.proofs.lemmas.List.{drop_all}
use Rattle.lfs_meta.specs.Attribute.{Attributes}
use Rattle.lfs_listing.specs.Difference.{same_attributes}

-- where none is left of the first, it is decided by the others
ended : (others : Attributes) (n : ℕ) → same_attributes [] others ≡ nat_eq n (n + length others)
ended [] n = sym (eq-eqb n (n + 0) (omega arith))
ended (b ∷ others) n = sym (ne_eqb n (n + length (b ∷ others)) (λ same. absurd (omega (arith, same))))

pub none_left : (i : ℕ) (these those : Attributes) → i ≡ length these → i ≤ length those
    → nat_eq (length these) (length those) ≡ same_attributes (drop i these) (drop i those)
none_left i these those is few =
    let left : i + length (drop i those) ≡ length those = omega (arith, length-drop i those, few) in
    sym (ap (λ (l : Attributes). same_attributes l (drop i those)) (drop_all i these (omega (arith, is)))
    ∙ ended (drop i those) i ∙ ap (λ (n : ℕ). nat_eq i n) left ∙ ap (λ (n : ℕ). nat_eq n (length those)) is)
