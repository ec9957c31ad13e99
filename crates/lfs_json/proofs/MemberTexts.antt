-- Members that hold texts.
use Rattle.std.proofs.Common.{◌≡◌, ℕ, zero, suc, ◌+◌, ◌/◌, ◌%◌, ◌<◌, ◌^◌, Bool, true, false, ◌&&◌, if◌then◌else◌, List, [], ◌∷◌, ◌++◌, inl, inr, refl, arith, slice_index}
use Rattle.std.specs.Str.{IsUtf8, is_utf8}
use Rattle.std.proofs.lemmas.Bool.{and_parts, cases_lt, cases_eq}
use Rattle.std.proofs.lemmas.List.{get_or_past}
use Rattle.std.proofs.lemmas.Str.{IsUtf8-append, IsUtf8-nil, IsUtf8-from_is_utf8}
use Rattle.hex.specs.Hex.{encode_with, encode_lower, lower_digits}
use Rattle.json.specs.Json.{string}
use Rattle.json.proofs.Printed.Utf8.{are_ascii, IsUtf8-are_ascii}
use Rattle.lfs_json.specs.Object.{Member, members_of, bytes_member, digits, integer}
use Rattle.lfs_json.specs.Texts.{HasTexts, MembersHaveTexts}

-- members, and others behind them
pub members_then : (ms ns : List Member) → MembersHaveTexts (members_of ms) → MembersHaveTexts (members_of ns) → MembersHaveTexts (members_of (ms ++ ns))
members_then [] ns h k = k
members_then (m ∷ ms) ns h k = (h.0, (h.1.0, members_then ms ns h.1.1 k))

-- a whole number
pub integer_text : (n : ℕ) → n < 2 ^ 64 → HasTexts (integer n)
integer_text n h = (n, h, refl)

-- ---- hexadecimal digits

abbrev digits_below : ℕ → Bool
digits_below zero = true
digits_below (suc n) = are_ascii (slice_index lower_digits n ∷ []) && digits_below n

digit_below : (n : ℕ) → digits_below n ≡ true → (x : ℕ) → x < n → are_ascii (slice_index lower_digits x ∷ []) ≡ true
digit_below zero e x h = absurd (omega arith)
digit_below (suc n) e x h =
    let p = and_parts _ _ e in
    elim (cases_eq x n) [ inl same ↦ rw same p.0 | inr other ↦ digit_below n p.1 x (omega arith) ]

digit_text : (n : ℕ) → IsUtf8 (slice_index lower_digits n ∷ [])
digit_text n = IsUtf8-are_ascii _ (elim (cases_lt n 16) [
  | inl small ↦ digit_below 16 refl n small
  | inr big ↦ rw (get_or_past lower_digits n 0 big) refl
])

pub digits_text : (bytes : List ℕ) → IsUtf8 (encode_lower bytes)
unfolding encode_with
digits_text [] = IsUtf8-nil
digits_text (b ∷ bytes) =
    IsUtf8-append (slice_index lower_digits (b / 16) ∷ []) _ (digit_text (b / 16))
    (IsUtf8-append (slice_index lower_digits (b % 16) ∷ []) _ (digit_text (b % 16)) (digits_text bytes))

-- ---- bytes that are text, and others

abbrev HasMemberTexts : Member → Type 0
HasMemberTexts m = IsUtf8 m.0 × HasTexts m.1

either_text : (name digits_name bytes : List ℕ) (b : Bool) → IsUtf8 name → IsUtf8 digits_name → (b ≡ true → IsUtf8 bytes)
    → HasMemberTexts (if b then (name, string bytes) else (digits_name, digits bytes))
either_text name digits_name bytes true h k text = (h, text refl)
either_text name digits_name bytes false h k text = (k, digits_text bytes)

pub bytes_text : (name digits_name bytes : List ℕ) → IsUtf8 name → IsUtf8 digits_name
    → MembersHaveTexts (members_of (bytes_member name digits_name bytes ∷ []))
bytes_text name digits_name bytes h k =
    let one = either_text name digits_name bytes (is_utf8 bytes) h k (IsUtf8-from_is_utf8 bytes) in
    (one.0, (one.1, tt))
