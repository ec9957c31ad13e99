-- The step that words say (own).
use Rattle.std.specs.Prelude.{◌≡◌, ◌⊎◌, ◌<◌, ◌^◌, ⊤, ℕ, List, [], ◌∷◌, codes}
use Rattle.std.specs.Borrow.{Bor}
use Rattle.std.specs.Str.{IsUtf8}
use Rattle.std.specs.Str.Parse.{IsNumeral, digits_value, without_leading_plus}
use Rattle.lfs_command.specs.declared.command.Command.{Command}
use Rattle.lfs_command.specs.declared.command.Command.TheVariants.{Mkdir, Put, Rm, Mv, SetAttr, RmAttr, Grow}
use Rattle.lfs_history.specs.declared.moves.Move.{Move}
use Rattle.lfs_history.specs.declared.moves.Move.TheVariants.{Do, Together, Undo, Redo, Forget}
use Rattle.lfs_history.specs.declared.source.Source.{Source}
use Rattle.lfs_history.specs.declared.source.Source.TheVariants.{File, Said}
use Rattle.lfs_history.specs.declared.terms.Terms.{Terms}
use Rattle.lfs_texts.specs.Digits.{SpellsByte, SpellsBytes, SpellsNoByte, SpellsNoBytes}
use Rattle.lfs_texts.specs.declared.line_fault.LineFault.{LineFault}
use Rattle.lfs_texts.specs.declared.line_fault.LineFault.TheVariants.{Memory, BadHex, BadLine}

-- a word is the decimal digits of a number below 2 ^ 32, where a plus may stand first
abbrev pub SpellsNumber : List ℕ → ℕ → Type 0
SpellsNumber word number =
    IsNumeral 10 (without_leading_plus word) × (number ≡ digits_value 10 (without_leading_plus word)) × (number < 2 ^ 32)

-- words set an attribute at a path, whose value is left out where it is empty
abbrev pub SaysSetAttr : List (List ℕ) → List ℕ → ℕ → List ℕ → Type 0
SaysSetAttr words path kind value = (digits : List ℕ) × SpellsByte digits kind
    × (((words ≡ codes "setattr" ∷ path ∷ digits ∷ []) × (value ≡ []))
    ⊎ ((values : List ℕ) × (words ≡ codes "setattr" ∷ path ∷ digits ∷ values ∷ []) × SpellsBytes values value))

-- words say a command, whose bytes are in a file of the host, or are said by digits; the name of a file is a text
abbrev pub SaysCommand : List (List ℕ) → Command (Bor (List ℕ)) Source → Type 0
SaysCommand words (Mkdir path) = words ≡ codes "mkdir" ∷ path.now ∷ []
SaysCommand words (Put path (File name) most) = IsUtf8 name.now × (words ≡ codes "put" ∷ path.now ∷ name.now ∷ [])
SaysCommand words (Rm path) = words ≡ codes "rm" ∷ path.now ∷ []
SaysCommand words (Mv from to) = words ≡ codes "mv" ∷ from.now ∷ to.now ∷ []
SaysCommand words (SetAttr path kind (Said value)) = SaysSetAttr words path.now kind value.items
SaysCommand words (RmAttr path kind) = (digits : List ℕ) × SpellsByte digits kind × (words ≡ codes "rmattr" ∷ path.now ∷ digits ∷ [])
SaysCommand words (Grow count) = (digits : List ℕ) × SpellsNumber digits count × (words ≡ codes "grow" ∷ digits ∷ [])
SaysCommand words _ = ⊥

-- words say a step: a command, or a change that is taken back or made again, or a history of the image alone
abbrev pub Says : List (List ℕ) → Move Source → Type 0
Says words (Do command keep) = SaysCommand words command
Says words (Together commands keep) = ⊥
Says words (Undo steps) = (steps ≡ 1) × (words ≡ codes "undo" ∷ [])
Says words (Redo steps) = (steps ≡ 1) × (words ≡ codes "redo" ∷ [])
Says words Forget = words ≡ codes "forget" ∷ []

-- a file is put with this bound for contents that stand in an entry
abbrev pub IsBounded : ℕ → Command (Bor (List ℕ)) Source → Type 0
IsBounded most (Put path bytes bound) = bound ≡ most
IsBounded most command = ⊤

-- a step that is a command is on these terms
abbrev pub IsOnTerms : Terms → Move Source → Type 0
IsOnTerms terms (Do command kept) = (kept ≡ terms.keep) × IsBounded terms.most command
IsOnTerms terms (Together commands kept) = kept ≡ terms.keep
IsOnTerms terms step = ⊤

-- words say no step
abbrev pub SaysNone : List (List ℕ) → Type 0
SaysNone words = (step : Move Source) → Says words step → ⊥

-- words are those of an attribute's step, but for the digits of its kind or its value, which spell nothing
abbrev pub HaveBadDigits : List (List ℕ) → Type 0
HaveBadDigits (verb ∷ path ∷ kind ∷ []) = ((verb ≡ codes "setattr") ⊎ (verb ≡ codes "rmattr")) × SpellsNoByte kind
HaveBadDigits (verb ∷ path ∷ kind ∷ value ∷ []) =
    (verb ≡ codes "setattr") × (SpellsNoByte kind ⊎ SpellsNoBytes value)
HaveBadDigits _ = ⊥

-- why words say no step, or want of memory
abbrev pub IsFault : List (List ℕ) → LineFault → Type 0
IsFault words Memory = ⊤
IsFault words BadHex = SaysNone words × HaveBadDigits words
IsFault words BadLine = SaysNone words × ¬ HaveBadDigits words
