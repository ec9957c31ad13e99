-- The bytes of a word, and the words of a line, one behind the other.
use Rattle.std.proofs.Common.{◌≡◌, ◌∙◌, ◌≤◌, ◌-◌, ℕ, Option, Some, None, Result, Ok, List, [], ◌∷◌, ◌++◌, Vec, refl, sym, ap, map, append_assoc}
use Rattle.std.proofs.Common.{arith, drop, get_or, length, take}
use Rattle.std.proofs.lemmas.List.{take_all}
use Rattle.std.specs.Fmt.{option_append}
use Rattle.std.specs.Result.{result_ok}
use Rattle.hex.specs.Hex.{decode_pairs}
use Rattle.hex.specs.declared.error.FromHexError.{FromHexError}
use Rattle.lfs_texts.specs.Words.{word_bytes, some_word, word_before, all_words}

-- one byte more
pub one_byte_more : (bytes : List ℕ) (byte : ℕ) (left : Option (List ℕ))
    → option_append (Some bytes) (option_append (Some (byte ∷ [])) left) ≡ option_append (Some (bytes ++ byte ∷ [])) left
one_byte_more bytes byte None = refl
one_byte_more bytes byte (Some more) = ap (λ (xs : List ℕ). Some xs) (sym (append_assoc bytes (byte ∷ []) more))

-- the first byte of what is left is taken
pub byte_taken : (text left rest behind bytes new : List ℕ) (first byte : ℕ)
    → word_bytes text ≡ option_append (Some bytes) (word_bytes left)
    → left ≡ first ∷ rest
    → word_bytes (first ∷ rest) ≡ option_append (Some (byte ∷ [])) (word_bytes behind)
    → new ≡ bytes ++ byte ∷ []
    → word_bytes text ≡ option_append (Some new) (word_bytes behind)
byte_taken text left rest behind bytes new first byte before is taken more =
    before
    ∙ ap (λ (xs : List ℕ). option_append (Some bytes) (word_bytes xs)) is
    ∙ ap (option_append (Some bytes)) taken
    ∙ one_byte_more bytes byte (word_bytes behind)
    ∙ ap (λ (xs : List ℕ). option_append (Some xs) (word_bytes behind)) (sym more)

-- a backslash, `x` and two digits stand for a byte
pub escape_taken : (first byte : ℕ) (rest : List ℕ) → first ≡ 92 → 3 ≤ length rest → get_or rest 0 0 ≡ 120
    → decode_pairs 0 (get_or rest 1 0 ∷ get_or rest 2 0 ∷ []) ≡ Ok (byte ∷ [])
    → word_bytes (first ∷ rest) ≡ option_append (Some (byte ∷ [])) (word_bytes (take (length rest - 3) (drop 3 rest)))
escape_taken first byte [] back long mark digits = absurd (omega (arith, long))
escape_taken first byte (x ∷ []) back long mark digits = absurd (omega (arith, long))
escape_taken first byte (x ∷ high ∷ []) back long mark digits = absurd (omega (arith, long))
escape_taken first byte (x ∷ high ∷ low ∷ rest) back long mark digits =
    ap (λ (b : ℕ). word_bytes (b ∷ x ∷ high ∷ low ∷ rest)) back
    ∙ ap (λ (b : ℕ). word_bytes (92 ∷ b ∷ high ∷ low ∷ rest)) mark
    ∙ ap (λ (read : Result (List ℕ) FromHexError). option_append (result_ok read) (word_bytes rest)) digits
    ∙ ap (λ (xs : List ℕ). option_append (Some (byte ∷ [])) (word_bytes xs))
    (sym (take_all (length (x ∷ high ∷ low ∷ rest) - 3) rest (omega arith)))

-- some words before others, where there are those
abbrev pub words_before : List (List ℕ) → Option (List (List ℕ)) → Option (List (List ℕ))
words_before words None = None
words_before words (Some more) = Some (words ++ more)

-- the words in vectors
abbrev pub words_in : {Z : Type 0} → List (Vec ℕ Z) → List (List ℕ)
words_in vectors = map (λ v. v.items) vectors

words_in_more : {Z : Type 0} (words : List (Vec ℕ Z)) (word : Vec ℕ Z) → words_in (words ++ word ∷ []) ≡ words_in words ++ word.items ∷ []
words_in_more [] word = refl
words_in_more (first ∷ words) word = ap (λ (ws : List (List ℕ)). first.items ∷ ws) (words_in_more words word)

one_word_more : (words : List (List ℕ)) (word : List ℕ) (left : Option (List (List ℕ)))
    → words_before words (word_before (Some word) left) ≡ words_before (words ++ word ∷ []) left
one_word_more words word None = refl
one_word_more words word (Some more) = ap (λ (ws : List (List ℕ)). Some ws) (sym (append_assoc words (word ∷ []) more))

-- the first word of what is left is taken
pub word_taken : {Z : Type 0} (all : Option (List (List ℕ))) (left rest : List (List ℕ)) (piece : List ℕ)
    (words new : List (Vec ℕ Z)) (word : Vec ℕ Z)
    → all ≡ words_before (words_in words) (all_words left)
    → left ≡ piece ∷ rest
    → some_word piece ≡ Some word.items
    → new ≡ words ++ word ∷ []
    → all ≡ words_before (words_in new) (all_words rest)
word_taken all left rest piece words new word before is stands more =
    before
    ∙ ap (λ (ps : List (List ℕ)). words_before (words_in words) (all_words ps)) is
    ∙ ap (λ (w : Option (List ℕ)). words_before (words_in words) (word_before w (all_words rest))) stands
    ∙ one_word_more (words_in words) word.items (all_words rest)
    ∙ ap (λ (ws : List (List ℕ)). words_before ws (all_words rest)) (sym (words_in_more words word) ∙ ap words_in (sym more))
