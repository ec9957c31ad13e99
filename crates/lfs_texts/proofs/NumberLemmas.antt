-- Digits are text.
use Rattle.std.proofs.Common.{◌≡◌, ◌<◌, ℕ, List, [], ◌∷◌, refl, arith, true, false}
use Rattle.std.specs.Prelude.{Bool, ◌==◌, cond, drop}
use Rattle.std.specs.Char.{digit_value}
use Rattle.std.specs.Str.{IsAscii, IsUtf8}
use Rattle.std.specs.Str.Parse.{AllDigits, without_leading_plus}
use Rattle.std.proofs.lemmas.Bool.Decides.{nat_tests}
use Rattle.std.proofs.lemmas.Str.{IsUtf8-from_ascii}
use Rattle.std.proofs.lemmas.Str.Ascii.{IsAscii-nil, IsAscii-cons}
use Rattle.lfs_texts.specs.Steps.{SpellsNumber}

digit_is_ascii : (c : ℕ) → digit_value c < 10 → c < 128
digit_is_ascii c is = grind (arith, nat_tests)

digits_are_ascii : (digits : List ℕ) → AllDigits 10 digits → IsAscii digits
digits_are_ascii [] all = IsAscii-nil
digits_are_ascii (c ∷ rest) all = IsAscii-cons c rest (digit_is_ascii c all.0) (digits_are_ascii rest all.1)

numeral_is_ascii : (word : List ℕ) → AllDigits 10 (without_leading_plus word) → IsAscii word
numeral_is_ascii [] all = IsAscii-nil
numeral_is_ascii (c ∷ rest) all = by (c == 43) (grind (arith, nat_tests)) all
  where
    by : (plus : Bool) → (plus ≡ true → c ≡ 43) → AllDigits 10 (drop (cond plus 1 0) (c ∷ rest)) → IsAscii (c ∷ rest)
    by true is all = let code : c ≡ 43 = is refl in IsAscii-cons c rest (omega (arith, code)) (digits_are_ascii rest all)
    by false is all = digits_are_ascii (c ∷ rest) all

-- a number is text
pub number_is_text : (word : List ℕ) (number : ℕ) → SpellsNumber word number → IsUtf8 word
number_is_text word number spells = IsUtf8-from_ascii word (numeral_is_ascii word spells.0.1)
