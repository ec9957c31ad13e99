-- The words of a line, and the bytes that they stand for (own).
use Rattle.std.specs.Prelude.{ℕ, ◌==◌, if◌then◌else◌, Option, Some, None, List, [], ◌∷◌}
use Rattle.std.specs.Fmt.{option_append}
use Rattle.std.specs.Result.{result_ok}
use Rattle.bstr.specs.Find.{matches}
use Rattle.bstr.specs.Text.{split_at}
use Rattle.hex.specs.Hex.{decode_sized}

-- the byte that two hexadecimal digits in either case are
abbrev pub digits_byte : List ℕ → Option (List ℕ)
digits_byte digits = result_ok (decode_sized digits 1)

-- the bytes that a word stands for: `\x` and two digits stand for a byte, every other byte but a backslash for itself
abbrev pub word_bytes : List ℕ → Option (List ℕ)
word_bytes [] = Some []
word_bytes (first ∷ mark ∷ high ∷ low ∷ rest) =
    if first == 92 then (if mark == 120 then option_append (digits_byte (high ∷ low ∷ [])) (word_bytes rest) else None)
    else option_append (Some (first ∷ [])) (word_bytes (mark ∷ high ∷ low ∷ rest))
word_bytes (first ∷ rest) = if first == 92 then None else option_append (Some (first ∷ [])) (word_bytes rest)

-- the same of a word that isn't empty
abbrev pub some_word : List ℕ → Option (List ℕ)
some_word [] = None
some_word (first ∷ rest) = word_bytes (first ∷ rest)

-- a word before others, where there are all of them
abbrev pub word_before : Option (List ℕ) → Option (List (List ℕ)) → Option (List (List ℕ))
word_before (Some word) (Some words) = Some (word ∷ words)
word_before _ _ = None

-- what each of some words stands for
abbrev pub all_words : List (List ℕ) → Option (List (List ℕ))
all_words [] = Some []
all_words (text ∷ texts) = word_before (some_word text) (all_words texts)

-- the words of a line, which single spaces part
abbrev pub words_of : List ℕ → Option (List (List ℕ))
words_of line = all_words (split_at line 1 0 (matches line (32 ∷ []) 0))
