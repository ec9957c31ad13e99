-- What is wrong in a line that says no step, and at which column (own).
use Rattle.std.specs.Prelude.{◌+◌, ◌-◌, ◌==◌, ◌&&◌, ◌||◌, ℕ, Bool, true, false, not, if◌then◌else◌, is_some, is_none, Option, Some, None, List, [], ◌∷◌, length, nat_lt}
use Rattle.lfs_texts.specs.Verbs.{least_of, most_of, verb_of}
use Rattle.lfs_texts.specs.Words.{digits_byte, words_of}
use Rattle.lfs_texts.specs.declared.flaw.Flaw.{Flaw}
use Rattle.lfs_texts.specs.declared.line_fault.LineFault.{LineFault}
use Rattle.lfs_texts.specs.declared.line_fault.LineFault.TheVariants.{Memory, BadHex, BadLine}
use Rattle.lfs_texts.specs.declared.reason.Reason.{Reason}
use Rattle.lfs_texts.specs.declared.reason.Reason.TheVariants.{SpaceInFront, TwoSpaces, SpaceBehind, BadEscape, Tab, Quote, UnknownVerb, TooFewWords, TooManyWords, BadNumber, BadFile, BadKind, BadValue}
use Rattle.lfs_texts.specs.declared.verb.Verb.{Verb}
use Rattle.lfs_texts.specs.declared.verb.Verb.TheVariants as verb
use Rattle.lfs_texts.specs.declared.wrong_word.WrongWord.{WrongWord}

-- ---- bytes that are no words

-- what stands behind a backslash says a byte
abbrev pub is_escape : List ℕ → Bool
is_escape (mark ∷ high ∷ low ∷ rest) = (mark == 120) && is_some (digits_byte (high ∷ low ∷ []))
is_escape _ = false

-- what a space is where a word ought to begin, at this column
abbrev pub space_at : ℕ → Reason
space_at column = if column == 1 then SpaceInFront else TwoSpaces

-- what is wrong in bytes from this column on, where a word begins there or doesn't: the first space that stands where a word ought to
-- begin, or the first backslash that says no byte; else the last byte, which is a space
abbrev pub spelling_flaw : ℕ → Bool → List ℕ → Flaw
spelling_flaw column begins [] = record { reason = SpaceBehind; column = column - 1 }
spelling_flaw column begins (byte ∷ rest) =
    if (byte == 32) && begins then record { reason = space_at column; column = column }
    else if (byte == 92) && not (is_escape rest) then record { reason = BadEscape; column = column }
    else spelling_flaw (column + 1) (byte == 32) rest

-- ---- words that say no step

-- the third word isn't two hexadecimal digits
abbrev pub has_bad_kind : List (List ℕ) → Bool
has_bad_kind (verb ∷ path ∷ kind ∷ rest) = is_none (digits_byte kind)
has_bad_kind _ = false

-- the word that is wrong where a verb has as many words as it takes
abbrev pub wrong_for : Verb → Bool → WrongWord
wrong_for verb.Grow _ = record { reason = BadNumber; place = 1 }
wrong_for verb.Put _ = record { reason = BadFile; place = 2 }
wrong_for verb.SetAttr false = record { reason = BadValue; place = 3 }
wrong_for _ _ = record { reason = BadKind; place = 2 }

-- the word that is wrong behind a verb with so many words: the first that is missing, the first that is too many, or the one that
-- isn't what the verb takes there
abbrev pub wrong_behind : Option Verb → ℕ → Bool → WrongWord
wrong_behind None count bad = record { reason = UnknownVerb; place = 0 }
wrong_behind (Some verb) count bad =
    if nat_lt count (least_of verb) then record { reason = TooFewWords verb; place = count + 1 }
    else if nat_lt (most_of verb) count then record { reason = TooManyWords verb; place = most_of verb + 1 }
    else wrong_for verb bad

-- the word that is wrong among words that say no step
abbrev pub wrong_among : List (List ℕ) → WrongWord
wrong_among [] = record { reason = UnknownVerb; place = 0 }
wrong_among (first ∷ behind) = wrong_behind (verb_of first) (length behind) (has_bad_kind (first ∷ behind))

-- ---- where

-- how many words stand before a word behind this byte, where so many do from the byte on: one fewer behind a space
abbrev pub place_behind : ℕ → ℕ → ℕ
place_behind byte place = if byte == 32 then place - 1 else place

-- the column at which the word of a place begins, in bytes from this column on; the one behind them where there are fewer words
abbrev pub word_column : ℕ → ℕ → List ℕ → ℕ
word_column column place [] = column
word_column column place (byte ∷ rest) =
    if place == 0 then column else word_column (column + 1) (place_behind byte place) rest

-- the first tab, or quote at which a word begins, in bytes from this column on
abbrev pub stray_mark : ℕ → Bool → List ℕ → Option Flaw
stray_mark column begins [] = None
stray_mark column begins (byte ∷ rest) =
    if byte == 9 then Some (record { reason = Tab; column = column })
    else if begins && ((byte == 34) || (byte == 39)) then Some (record { reason = Quote; column = column })
    else stray_mark (column + 1) (byte == 32) rest

-- the words are counted for a reason, so that a tab or a quote may be what was meant to part them or to hold them together
abbrev pub is_of_counting : Reason → Bool
is_of_counting UnknownVerb = true
is_of_counting (TooFewWords verb) = true
is_of_counting (TooManyWords verb) = true
is_of_counting _ = false

-- a mark that was found, or the word that is wrong
abbrev pub mark_or_word : Option Flaw → List ℕ → WrongWord → Flaw
mark_or_word (Some mark) line word = mark
mark_or_word None line word = record { reason = word.reason; column = word_column 1 word.place line }

-- what is wrong in a line of words that say no step
abbrev pub words_flaw : List ℕ → WrongWord → Flaw
words_flaw line word = mark_or_word (if is_of_counting word.reason then stray_mark 1 true line else None) line word

-- what is wrong in a line that says no step
abbrev pub flaw_of : List ℕ → Option (List (List ℕ)) → Flaw
flaw_of line None = spelling_flaw 1 true line
flaw_of line (Some words) = words_flaw line (wrong_among words)

-- what is known of a fault: what is wrong in the line, but for want of memory
abbrev pub known_flaw : List ℕ → LineFault → Option Flaw
known_flaw line Memory = None
known_flaw line BadHex = Some (flaw_of line (words_of line))
known_flaw line BadLine = Some (flaw_of line (words_of line))
