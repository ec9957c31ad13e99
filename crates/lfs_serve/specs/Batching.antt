-- The steps of a script, which are taken all or not at all (own).
use Rattle.std.specs.Borrow.{Bor}
use Rattle.std.specs.Prelude.{◌≡◌, ◌⊎◌, ℕ, Bool, true, if◌then◌else◌, List, [], ◌∷◌, Option, Some, None}
use Rattle.std.specs.List.{AllByRecursion, AllZip}
use Rattle.lfs_fs.specs.Limits.{most_file}
use Rattle.lfs_history.specs.Taking as change
use Rattle.lfs_history.specs.Taking.{KeepsInRange}
use Rattle.lfs_history.specs.declared.terms.Terms.{Terms}
use Rattle.lfs_request.specs.declared.fault.Fault.{Fault}
use Rattle.lfs_host.specs.Files.{Files, ReadsFile, ReadsInput}
use Rattle.lfs_host.specs.Scene.{Scene}
use Rattle.lfs_open.specs.LineMoves.{HandsContents, commands_in, move_said}
use Rattle.lfs_exchange.specs.Handing.{IsUnread}
use Rattle.lfs_report.specs.RefusedLine.{fault_of_line}
use Rattle.lfs_texts.specs.OneChange.{first_other}
use Rattle.lfs_texts.specs.Script.{IsFirstFault, SaysLine, asking_lines}
use Rattle.lfs_texts.specs.Steps.{IsOnTerms}
use Rattle.lfs_texts.specs.declared.script_fault.ScriptFault.{ScriptFault}
use Rattle.lfs_texts.specs.declared.script_line.ScriptLine.{ScriptLine}

-- ---- what a line means

-- what a line means
abbrev pub MeansMove : Option Files → ScriptLine → change.Move → Type 0
MeansMove files line move = (read : List ℕ) × HandsContents line.step files read × (move ≡ move_said line read)

-- ---- a script

-- the steps on a history that lines mean, in their order
abbrev pub TakesLines : Option Files → List ScriptLine → List change.Move → Type 0
TakesLines files lines moves = AllZip (MeansMove files) lines moves

-- each command of lines is on these terms
abbrev pub AreOnTerms : Terms → List ScriptLine → Type 0
AreOnTerms terms lines = AllByRecursion (λ line. IsOnTerms terms line.step) lines

-- what they keep may be kept
abbrev pub KeepInRange : List ScriptLine → Type 0
KeepInRange lines = AllByRecursion (λ line. (read : List ℕ) → KeepsInRange (move_said line read)) lines

-- ---- one change

-- steps as they are asked for: as they are, or their commands as one change, which is none where there is no step
abbrev pub as_asked : Bool → Option ℕ → List change.Move → List change.Move
as_asked one keep [] = []
as_asked one keep (move ∷ moves) =
    if one then change.Together (commands_in (move ∷ moves)) keep ∷ [] else move ∷ moves

-- lines that are to be one change say commands alone
abbrev pub MayBeOne : Bool → List ScriptLine → Type 0
MayBeOne one lines = one ≡ true → first_other lines ≡ None

-- the steps that lines become: those that they mean, as they are asked for
abbrev pub BecomesOf : Option Files → List ScriptLine → Bool → Option ℕ → List change.Move → Type 0
BecomesOf files lines one keep moves =
    (meant : List change.Move) × TakesLines files lines meant × (moves ≡ as_asked one keep meant)

-- those that the lines of a text become
abbrev pub TakesText : Option Files → Terms → Bool → List ℕ → List change.Move → Type 0
TakesText files terms one text moves =
    (lines : List ScriptLine) × AllZip SaysLine (asking_lines text) lines × AreOnTerms terms lines × MayBeOne one lines
    × BecomesOf files lines one terms.keep moves

-- the text of a script: that of a file of the host, or what comes on standard input
abbrev pub ReadsScript : Option (Bor (List ℕ)) → Scene → List ℕ → Type 0
ReadsScript (Some name) scene text = ReadsFile scene.files name.now most_file text
ReadsScript None scene text = ReadsInput scene.typed most_file text

-- the steps that a script becomes
abbrev pub BecomesBatch : Option (Bor (List ℕ)) → Terms → Bool → Scene → List change.Move → Type 0
BecomesBatch file terms one scene moves = (text : List ℕ) × ReadsScript file scene text × TakesText scene.files terms one text moves

-- ---- a script that becomes no steps

-- a line of a text that is to be one change says no command: the first that doesn't, where each says a step
abbrev pub SaysOther : List ℕ → ScriptFault → Type 0
SaysOther text first = (lines : List ScriptLine) × AllZip SaysLine (asking_lines text) lines × (first_other lines ≡ Some first)

-- a line of a text says no step, or no part of one change
abbrev pub IsRefusedLine : Bool → List ℕ → ScriptFault → Type 0
IsRefusedLine one text first = IsFirstFault text first ⊎ ((one ≡ true) × SaysOther text first)

-- a text says no steps, for the line that is refused
abbrev pub SaysNoSteps : Bool → List ℕ → Fault → Type 0
SaysNoSteps one text why = (first : ScriptFault) × IsRefusedLine one text first × (why ≡ fault_of_line first.fault)

-- why a script becomes none: it isn't read, or a file that it puts isn't, or a line says no step
abbrev pub BecomesNoBatch : Option (Bor (List ℕ)) → Bool → Scene → Scene → Fault → Type 0
BecomesNoBatch file one old new why = IsUnread new why ⊎ ((text : List ℕ) × ReadsScript file old text × SaysNoSteps one text why)
