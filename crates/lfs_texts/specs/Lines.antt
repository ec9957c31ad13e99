-- The step that a line says (own).
use Rattle.std.specs.Prelude.{◌≡◌, ◌==◌, ⊤, ℕ, Bool, true, Some, List, [], ◌∷◌}
use Rattle.lfs_history.specs.declared.moves.Move.{Move}
use Rattle.lfs_history.specs.declared.source.Source.{Source}
use Rattle.lfs_texts.specs.Words.{words_of}
use Rattle.lfs_texts.specs.Steps.{HaveBadDigits, Says}
use Rattle.lfs_texts.specs.declared.line_fault.LineFault.{LineFault}
use Rattle.lfs_texts.specs.declared.line_fault.LineFault.TheVariants.{Memory, BadHex, BadLine}

-- a line is passed over: it is empty, or begins with `#`
abbrev pub is_passed_over : List ℕ → Bool
is_passed_over [] = true
is_passed_over (first ∷ rest) = first == 35

-- a line says a step, by its words
abbrev pub LineSays : List ℕ → Move Source → Type 0
LineSays line step = (words : List (List ℕ)) × (words_of line ≡ Some words) × Says words step

-- a line says no step
abbrev pub LineSaysNone : List ℕ → Type 0
LineSaysNone line = (step : Move Source) → LineSays line step → ⊥

-- the words of a line are those of an attribute's step, but for digits that spell nothing
abbrev pub LineHasBadDigits : List ℕ → Type 0
LineHasBadDigits line = (words : List (List ℕ)) × (words_of line ≡ Some words) × HaveBadDigits words

-- why a line says no step, or want of memory
abbrev pub IsLineFault : List ℕ → LineFault → Type 0
IsLineFault line Memory = ⊤
IsLineFault line BadHex = LineSaysNone line × LineHasBadDigits line
IsLineFault line BadLine = LineSaysNone line × ¬ LineHasBadDigits line
