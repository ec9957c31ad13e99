-- Bytes that are taken off from others, piece by piece.
use Rattle.std.proofs.Common.{◌≡◌, ◌≢◌, ◌⊎◌, ℕ, List, [], ◌∷◌, ◌++◌, refl, ap, sym, ◌∙◌, inl, inr, append-nil, append_assoc}
use Rattle.std.proofs.lemmas.List.{append_cancel_left}

-- one of two lists with the same whole begins the other
one_begins : (xs ys a b : List ℕ) → xs ++ a ≡ ys ++ b → ((c : List ℕ) × (xs ≡ ys ++ c)) ⊎ ((c : List ℕ) × (ys ≡ xs ++ c))
one_begins [] ys a b same = inr (ys, refl)
one_begins (x ∷ xs) [] a b same = inl (x ∷ xs, refl)
one_begins (x ∷ xs) (y ∷ ys) a b same =
    let head : x ≡ y = cc in
    let tail : xs ++ a ≡ ys ++ b = cc in
    elim (one_begins xs ys a b tail) [
      | inl begins ↦ inl (begins.0, cc (head, begins.1))
      | inr begins ↦ inr (begins.0, cc (head, begins.1))
    ]

module _ (old bytes front slice more rest : List ℕ) (was : old ≡ front ++ (slice ++ more)) (asked : bytes ≡ front ++ rest) where
  -- what is asked for is in the piece
  pub taken : (left : List ℕ) → slice ≡ rest ++ left → old ≡ bytes ++ (left ++ more)
  taken left is =
      was ∙ ap (λ (l : List ℕ). front ++ (l ++ more)) is ∙ ap (λ (l : List ℕ). front ++ l) (append_assoc rest left more)
      ∙ sym (append_assoc front rest (left ++ more)) ∙ ap (λ (l : List ℕ). l ++ (left ++ more)) (sym asked)

  behind : (r : List ℕ) → old ≡ bytes ++ r → slice ++ more ≡ rest ++ r
  behind r same =
      append_cancel_left front (slice ++ more) (rest ++ r)
      (sym was ∙ same ∙ ap (λ (l : List ℕ). l ++ r) asked ∙ append_assoc front rest r)

  -- neither begins the other
  pub differs : ((c : List ℕ) → slice ≢ rest ++ c) → ((c : List ℕ) → rest ≢ slice ++ c) → (r : List ℕ) → old ≡ bytes ++ r → ⊥
  differs no_more no_less r same = elim (one_begins slice rest more r (behind r same)) [
    | inl begins ↦ no_more begins.0 begins.1
    | inr begins ↦ no_less begins.0 begins.1
  ]

  -- there are no more pieces
  pub ends_early : ((c : List ℕ) → slice ≢ rest ++ c) → more ≡ [] → (r : List ℕ) → old ≡ bytes ++ r → ⊥
  ends_early no_more none r same =
      no_more r (sym (append-nil slice) ∙ ap (λ (l : List ℕ). slice ++ l) (sym none) ∙ behind r same)

  -- the whole piece is the same, and another one comes
  pub goes_on : (later next others : List ℕ) → rest ≡ slice ++ later → more ≡ next ++ others
      → (x : List ℕ) × (old ≡ x ++ (next ++ others)) × (bytes ≡ x ++ later)
  goes_on later next others is comes = (
    front ++ slice,
    was ∙ ap (λ (l : List ℕ). front ++ (slice ++ l)) comes ∙ sym (append_assoc front slice (next ++ others)),
    asked ∙ ap (λ (l : List ℕ). front ++ l) is ∙ sym (append_assoc front slice later),
  )
