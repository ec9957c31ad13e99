-- The digits of bytes, one after another.
use Rattle.std.proofs.Common.{◌≡◌, ℕ, ◌+◌, ◌<◌, List, [], ◌∷◌, ◌++◌, refl, ap, sym, ◌∙◌, length, take, get_or, slice_index, ◌/◌, ◌%◌, append-nil, append_assoc}
use Rattle.std.proofs.lemmas.List.{take_more}
use Rattle.hex.specs.Hex.{encode_with, encode_lower, lower_digits}

digits_then : (xs : List ℕ) (x : ℕ) → encode_lower (xs ++ x ∷ []) ≡ encode_lower xs ++ encode_lower (x ∷ [])
unfolding encode_with
digits_then [] x = refl
digits_then (y ∷ xs) x =
    ap (λ (ds : List ℕ). slice_index lower_digits (y / 16) ∷ slice_index lower_digits (y % 16) ∷ ds) (digits_then xs x)

-- no byte is added yet
pub digits_none : (old : List ℕ) → old ≡ old ++ encode_lower []
unfolding encode_with
digits_none old = sym (append-nil old)

-- one more is added
pub digits_more : (old text new xs : List ℕ) (i : ℕ) → i < length xs → text ≡ old ++ encode_lower (take i xs)
    → new ≡ text ++ encode_lower (get_or xs i 0 ∷ []) → new ≡ old ++ encode_lower (take (i + 1) xs)
digits_more old text new xs i within is is' =
    let more : take (i + 1) xs ≡ take i xs ++ get_or xs i 0 ∷ [] = take_more xs i 0 within in
    is' ∙ ap (λ (t : List ℕ). t ++ encode_lower (get_or xs i 0 ∷ [])) is
    ∙ append_assoc old (encode_lower (take i xs)) (encode_lower (get_or xs i 0 ∷ []))
    ∙ ap (λ (ds : List ℕ). old ++ ds) (sym (digits_then (take i xs) (get_or xs i 0)) ∙ ap encode_lower (sym more))
