-- What is printed has no control character.
use Rattle.std.proofs.Common.{◌≡◌, ℕ, zero, suc, ◌+◌, ◌%◌, ◌^◌, ◌<◌, ◌≤◌, Bool, true, ◌&&◌, nat_le, List, [], ◌∷◌, ◌++◌, decimal, inl, inr, refl, arith, leb-true}
use Rattle.std.proofs.lemmas.Bool.{and_parts, cases_lt, cases_eq}
use Rattle.std.specs.List.{AllByRecursion}
use Rattle.std.proofs.lemmas.Fmt.{decimal_by_steps}
use Rattle.json.specs.Print.{escape_byte, escape, quoted}
use Rattle.json.proofs.Printed.Strings.{escape_byte_plain}

-- no byte is a control character
abbrev pub Shown : List ℕ → Type 0
Shown xs = AllByRecursion (λ b. 32 ≤ b) xs

pub shown_append : (xs ys : List ℕ) → Shown xs → Shown ys → Shown (xs ++ ys)
shown_append [] ys h k = k
shown_append (x ∷ xs) ys h k = (h.0, shown_append xs ys h.1 k)

abbrev are_shown : List ℕ → Bool
are_shown [] = true
are_shown (x ∷ xs) = nat_le 32 x && are_shown xs

shown_of : (xs : List ℕ) → are_shown xs ≡ true → Shown xs
shown_of [] e = tt
shown_of (x ∷ xs) e = let p = and_parts _ _ e in (leb-true _ _ p.0, shown_of xs p.1)

-- the escapes of the bytes below n are
abbrev escapes_below : ℕ → Bool
escapes_below zero = true
escapes_below (suc n) = are_shown (escape_byte n) && escapes_below n

escape_below : (n : ℕ) → escapes_below n ≡ true → (x : ℕ) → x < n → are_shown (escape_byte x) ≡ true
escape_below zero e x h = absurd (omega arith)
escape_below (suc n) e x h =
    let p = and_parts _ _ e in
    elim (cases_eq x n) [ inl same ↦ rw same p.0 | inr other ↦ escape_below n p.1 x (omega arith) ]

first_escapes : escapes_below 93 ≡ true
unfolding escape_byte
first_escapes = refl

one_escape : (x : ℕ) → Shown (escape_byte x)
one_escape x = elim (cases_lt x 93) [
  | inl small ↦ shown_of _ (escape_below 93 first_escapes x small)
  | inr big ↦ rw (escape_byte_plain x (λ e. omega arith) (λ e. omega arith) (omega arith)) ((omega arith, tt))
]

shown_escape : (s : List ℕ) → Shown (escape s)
shown_escape [] = tt
shown_escape (x ∷ s) = shown_append (escape_byte x) (escape s) (one_escape x) (shown_escape s)

pub shown_quoted : (s : List ℕ) → Shown (quoted s)
shown_quoted s = (omega arith, shown_append (escape s) (34 ∷ []) (shown_escape s) (omega arith, tt))

pub shown_decimal : (n : ℕ) → n < 2 ^ 64 → Shown (decimal n)
shown_decimal n h =
    decimal_by_steps (λ m ds. Shown ds) (λ m small. (omega arith, tt))
    (λ m ds big before. shown_append ds ((48 + m % 10) ∷ []) before (omega arith, tt)) n h
