-- What the lines of a script ask for (own).
use Rattle.std.specs.Prelude.{◌≡◌, ◌⊎◌, ◌-◌, ◌==◌, ℕ, true, false, not, if◌then◌else◌, Option, Some, None, List, [], ◌∷◌, ◌++◌, filter, map, slice_get}
use Rattle.std.specs.List.{AllZip, enumerate_from}
use Rattle.bstr.specs.Text.{lines_of, without_terminator}
use Rattle.lfs_history.specs.declared.terms.Terms.{Terms}
use Rattle.lfs_texts.specs.Flaws.{known_flaw}
use Rattle.lfs_texts.specs.Lines.{IsLineFault, LineSays, is_passed_over}
use Rattle.lfs_texts.specs.Steps.{IsOnTerms}
use Rattle.lfs_texts.specs.Words.{words_of}
use Rattle.lfs_texts.specs.declared.line_words.LineWords.{LineWords}
use Rattle.lfs_texts.specs.declared.script_line.ScriptLine.{ScriptLine}
use Rattle.lfs_texts.specs.declared.script_fault.ScriptFault.{ScriptFault}

-- a line with its number
abbrev pub NumberedLine : Type 0
NumberedLine = ℕ × List ℕ

-- the lines of a text, without what ends them
abbrev pub lines_in : List ℕ → List (List ℕ)
lines_in text = map without_terminator (lines_of text)

-- the line of a number, from 1 on
abbrev pub numbered_line : List ℕ → ℕ → Option (List ℕ)
numbered_line text number = if number == 0 then None else slice_get (lines_in text) (number - 1)

-- of lines whose first has this number those that aren't passed over
abbrev pub asking_from : ℕ → List (List ℕ) → List NumberedLine
asking_from number lines = filter (λ line. not (is_passed_over line.1)) (enumerate_from number lines)

-- the lines of a text that aren't passed over, with their numbers, from 1 on
abbrev pub asking_lines : List ℕ → List NumberedLine
asking_lines text = asking_from 1 (lines_in text)

-- what a line asks for: its number, and the step that it says
abbrev pub SaysLine : NumberedLine → ScriptLine → Type 0
SaysLine line said = (said.number ≡ line.0) × LineSays line.1 said.step

-- the first line of a text that says no step, behind others that each say one, with what is wrong in it; or want of memory there
pub record IsFirstFault (text : List ℕ) (fault : ScriptFault) : Type 0 where
  pub line : List ℕ
  pub before : List NumberedLine
  pub behind : List NumberedLine
  pub said : List ScriptLine
  pub asked : asking_lines text ≡ before ++ (fault.number, line) ∷ behind
  pub says : AllZip SaysLine before said
  pub refused : IsLineFault line fault.fault
  pub known : fault.flaw ≡ known_flaw line fault.fault

-- ---- lines with their words

-- the words of a line are those that it has
abbrev pub HasItsWords : LineWords → Type 0
HasItsWords line = words_of line.line.now ≡ Some (map (λ w. w.items) line.words.items)

-- a line that asks, with its words
abbrev pub IsLineWords : NumberedLine → LineWords → Type 0
IsLineWords line words = (words.number ≡ line.0) × (words.line.now ≡ line.1) × HasItsWords words

-- one more line stands with its words behind the rest, unless it is passed over
abbrev pub SplitsLine : NumberedLine → List LineWords → List LineWords → Type 0
SplitsLine line old new =
    ((is_passed_over line.1 ≡ true) × (new ≡ old))
    ⊎ ((is_passed_over line.1 ≡ false) × ((words : LineWords) × IsLineWords line words × (new ≡ old ++ words ∷ [])))

-- the first line of a text that has no words, behind others with theirs, with what is wrong in it; or want of memory there
pub record IsFirstWordless (text : List ℕ) (lines : List LineWords) (fault : ScriptFault) : Type 0 where
  pub line : List ℕ
  pub before : List NumberedLine
  pub behind : List NumberedLine
  pub asked : asking_lines text ≡ before ++ (fault.number, line) ∷ behind
  pub split : AllZip IsLineWords before lines
  pub refused : IsLineFault line fault.fault
  pub known : fault.flaw ≡ known_flaw line fault.fault

-- the lines of a text that ask, with their words: all of them, or those before the first that has none
abbrev pub AreSplit : List ℕ → List LineWords → Option ScriptFault → Type 0
AreSplit text lines None = AllZip IsLineWords (asking_lines text) lines
AreSplit text lines (Some fault) = IsFirstWordless text lines fault

-- ---- what they ask for

-- what a line with its words asks for: its number, and the step that it says
abbrev pub IsLineSaid : LineWords → ScriptLine → Type 0
IsLineSaid line said = (said.number ≡ line.number) × LineSays line.line.now said.step

-- so it does, after the rest, on these terms
abbrev pub TakesStep : Terms → LineWords → List ScriptLine → List ScriptLine → Type 0
TakesStep terms line old new = (said : ScriptLine) × IsLineSaid line said × IsOnTerms terms said.step × (new ≡ old ++ said ∷ [])

-- the first of some lines that says no step, behind others that each say one, with what is wrong in it; or want of memory there
pub record IsFirstSilent (lines : List LineWords) (fault : ScriptFault) : Type 0 where
  pub line : LineWords
  pub before : List LineWords
  pub behind : List LineWords
  pub said : List ScriptLine
  pub asked : lines ≡ before ++ line ∷ behind
  pub says : AllZip IsLineSaid before said
  pub number : fault.number ≡ line.number
  pub refused : IsLineFault line.line.now fault.fault
  pub known : fault.flaw ≡ known_flaw line.line.now fault.fault
