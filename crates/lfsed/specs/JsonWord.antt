-- The word in front of the command that asks for JSON of all that is told (own).
use Rattle.std.specs.Prelude.{◌||◌, Bool, false, List, Option, Some, None, bytes_eq, codes, if◌then◌else◌, slice_get}
use Rattle.std.specs.List.{remove, swap}
use Rattle.clap.specs.Words.{Text}

-- a word is there, and is this one
abbrev pub is_word : Option Text → Text → Bool
is_word None text = false
is_word (Some word) text = bytes_eq word text

-- the word after the program's name asks for JSON
abbrev pub asks_for_json : List Text → Bool
asks_for_json words = is_word (slice_get words 1) (codes "--json")

-- a word is one of the commands that print rows
abbrev pub is_of_rows : Option Text → Bool
is_of_rows word =
    is_word word (codes "check") || (is_word word (codes "ls") || (is_word word (codes "blocks") || (is_word word (codes "diff")
    || (is_word word (codes "log") || (is_word word (codes "adopt") || (is_word word (codes "find") || is_word word (codes "explain")))))))

-- words as the grammar reads them: one in front of the command that asks for JSON goes, or stands after a command that prints rows
abbrev pub plain_words : List Text → List Text
plain_words words =
    if asks_for_json words then (if is_of_rows (slice_get words 2) then swap words 1 2 else remove words 1) else words
