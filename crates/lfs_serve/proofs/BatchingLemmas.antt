-- The steps of a script, and how they end.
use Rattle.std.proofs.Common.{false, ◌≡◌, ◌⊎◌, ◌&&◌, ◌<◌, ℕ, Bor, Bool, true, List, [], ◌∷◌, Option}
use Rattle.std.proofs.Common.{length, map, refl, sym, ap, subst, ◌∙◌, arith, inl, inr}
use Rattle.std.specs.Global.{Vec}
use Rattle.std.specs.List.{AllByRecursion, AllZip}
use Rattle.lfs_command.specs.Command.{Asked}
use Rattle.lfs_history.specs.declared.moves.Move.{Move}
use Rattle.lfs_history.specs.declared.moves.Move.TheVariants.{Do, Together, Undo, Redo, Forget}
use Rattle.lfs_history.specs.declared.source.Source.{Source}
use Rattle.lfs_history.specs.declared.terms.Terms.{Terms}
use Rattle.lfs_history.specs.Filling.{bytes_given}
use Rattle.lfs_history.specs.Meaning.{OnBytes, step_by, step_of}
use Rattle.lfs_history.specs.Taking as change
use Rattle.lfs_history.specs.Taking.{KeepsInRange, MayKeep}
use Rattle.lfs_request.specs.declared.fault.Fault.{Fault}
use Rattle.lfs_host.specs.Files.{Files}
use Rattle.lfs_host.specs.Scene.{KeepsScene, Scene}
use Rattle.lfs_exchange.specs.Handing.{IsUnread}
use Rattle.lfs_texts.specs.Steps.{IsOnTerms}
use Rattle.lfs_texts.specs.declared.script_line.ScriptLine.{ScriptLine}
use Rattle.lfs_request.specs.declared.operation.Operation.TheVariants as operation
use Rattle.lfs_step.specs.Step.{may_take_older}
use Rattle.lfs_step.specs.declared.step.Step.TheVariants.{Change}
use Rattle.lfs_exchange.specs.StepKind.{kind_of_steps}
use Rattle.lfs_open.specs.LineMoves.{HandsLine, commands_in, moves_said}
use Rattle.lfs_serve.specs.Batching.{AreOnTerms, BecomesBatch, BecomesNoBatch, KeepInRange, MeansMove, ReadsScript, SaysNoSteps, TakesLines, TakesText, as_asked}
use Rattle.lfs_serve.specs.Lines.{EndsLines}
use Rattle.lfs_serve.specs.Program.{EndsOperation, as_it_is}
use Rattle.lfs_serve.proofs.StepLemmas.{step_from}

-- ---- what they mean

all_mean : (files : Option Files) (lines : List ScriptLine) (read : List (List ℕ)) → AllZip (HandsLine files) lines read
    → AllZip (MeansMove files) lines (moves_said lines read)
all_mean files [] [] zips = tt
all_mean files [] (one ∷ read) zips = absurd zips
all_mean files (line ∷ lines) [] zips = absurd zips
all_mean files (line ∷ lines) (one ∷ read) zips = ((one, zips.0, refl), all_mean files lines read zips.1)

-- what a step keeps may be kept
said_in_range : (step : Move Source) (read : List ℕ) (terms : Terms) → MayKeep terms.keep → IsOnTerms terms step
    → KeepsInRange (step_by (bytes_given read) step)
said_in_range (Do command kept) read terms may is = subst MayKeep (sym is.0) may
said_in_range (Together commands kept) read terms may is = subst MayKeep (sym is) may
said_in_range (Undo steps) read terms may is = tt
said_in_range (Redo steps) read terms may is = tt
said_in_range Forget read terms may is = tt

pub lines_in_range : (terms : Terms) (lines : List ScriptLine) → MayKeep terms.keep → AreOnTerms terms lines → KeepInRange lines
lines_in_range terms [] may keeps = tt
lines_in_range terms (line ∷ lines) may keeps =
    (λ read. said_in_range line.step read terms may keeps.0, lines_in_range terms lines may keeps.1)

all_said_in_range : (lines : List ScriptLine) (read : List (List ℕ)) → KeepInRange lines → AllByRecursion KeepsInRange (moves_said lines read)
all_said_in_range [] read keeps = tt
all_said_in_range (line ∷ lines) [] keeps = tt
all_said_in_range (line ∷ lines) (one ∷ read) keeps = (keeps.0 one, all_said_in_range lines read keeps.1)

in_range_of : (moves : List OnBytes) → AllByRecursion KeepsInRange (map step_of moves) → AllByRecursion (λ m. KeepsInRange (step_of m)) moves
in_range_of [] all = tt
in_range_of (m ∷ moves) all = (all.0, in_range_of moves all.1)

pub all_in_range : (lines : List ScriptLine) (read : List (List ℕ)) (moves : List OnBytes) → KeepInRange lines
    → map step_of moves ≡ moves_said lines read → AllByRecursion (λ m. KeepsInRange (step_of m)) moves
all_in_range lines read moves keeps same =
    in_range_of moves (subst (AllByRecursion KeepsInRange) (sym same) (all_said_in_range lines read keeps))

-- ---- one change

-- those that are have their commands in one
pub as_one : (one : Bool) (keep : Option ℕ) (moves : List OnBytes) (asked : List Asked) → one ≡ true → 0 < length moves
    → asked ≡ commands_in (map step_of moves) → change.Together asked keep ∷ [] ≡ as_asked one keep (map step_of moves)
as_one one keep [] asked is some are = absurd (omega (arith, some))
as_one one keep (move ∷ moves) asked is some are =
    rw (is) (ap (λ (cs : List Asked). change.Together cs keep ∷ []) are)

-- steps that aren't are asked for as they are
pub as_they_are : (one : Bool) (keep : Option ℕ) (moves : List change.Move) → one ≡ false → moves ≡ as_asked one keep moves
as_they_are one keep [] is = refl
as_they_are one keep (move ∷ moves) is = rw is refl

-- so are none
pub none_asked : (one : Bool) (keep : Option ℕ) (moves : List OnBytes) → length moves ≡ 0
    → map step_of moves ≡ as_asked one keep (map step_of moves)
none_asked one keep [] none = refl
none_asked one keep (move ∷ moves) none = absurd (omega (arith, none))

-- the steps that are taken are those of the lines
pub takes_lines : (files : Option Files) (lines : List ScriptLine) (read : List (List ℕ)) (steps moves : List OnBytes)
    → AllZip (HandsLine files) lines read → map step_of moves ≡ moves_said lines read → steps ≡ moves
    → TakesLines files lines (map step_of steps)
takes_lines files lines read steps moves zips same are =
    subst (AllZip (MeansMove files) lines) (sym (ap (map step_of) are ∙ same)) (all_mean files lines read zips)

-- their kind is that of what they ask for
pub same_kind : (steps : List OnBytes) → kind_of_steps steps ≡ kind_of_steps (map step_of steps)
same_kind [] = refl
same_kind (step ∷ steps) = refl

-- ---- how they end

-- by another becoming, another cause and the fault that is known
pub ends_by : (a b : List change.Move → Type 0) (why because : Fault → Type 0) (older : Bool) (size : ℕ) (name : List ℕ) (old new : Scene)
    (ended fault : Option Fault) → ended ≡ fault → ((moves : List change.Move) → a moves → b moves) → ((f : Fault) → why f → because f)
    → EndsLines a why older size name old new fault → EndsLines b because older size name old new ended
ends_by a b why because older size name old new ended fault is turn cause ends =
    subst (EndsLines b because older size name old new) (sym is) (
    elim ends [
      | inl did ↦ inl (did.0, turn (map step_of did.0.now) did.1, did.2)
      | inr not ↦
          inr (
            not.0,
            (
              not.1.0,
              not.1.1,
              elim not.1.2 [
                | inl none ↦ inl (cause not.1.0 none)
                | inr apart ↦ inr (apart.0, turn apart.0 apart.1, apart.2)
              ],
            ),
          )
    ]
    )

-- from a scene whose files and whose output are those of another one
pub ends_from : (becomes : List change.Move → Type 0) (why : Fault → Type 0) (older : Bool) (size : ℕ) (name : List ℕ) (old mid new : Scene)
    (fault : Option Fault) → KeepsScene old mid → EndsLines becomes why older size name mid new fault
    → EndsLines becomes why older size name old new fault
ends_from becomes why older size name old mid new fault kept ends =
    elim ends [
      | inl did ↦ inl (did.0, did.1, step_from (Change did.0) (as_it_is (may_take_older (Change did.0) && older)) size name mid old new fault kept.0 kept.1 did.2)
      | inr not ↦ inr ((not.0.0 ∙ kept.0, not.0.1 ∙ kept.1), not.1)
    ]

-- why a script becomes no steps
no_batch : (file : Option (Bor (List ℕ))) (text : List ℕ) (one : Bool) (old new : Scene) (why : Fault) → ReadsScript file old text
    → IsUnread new why ⊎ SaysNoSteps one text why → BecomesNoBatch file one old new why
no_batch file text one old new why reads (inl unread) = inl unread
no_batch file text one old new why reads (inr says) = inr (text, reads, says)

-- the steps that a text says on the scene behind its reading
from_mid : (file : Option (Bor (List ℕ))) (text : List ℕ) (terms : Terms) (one : Bool) (old mid : Scene) (moves : List change.Move)
    → ReadsScript file old text → mid.files ≡ old.files → TakesText mid.files terms one text moves → BecomesBatch file terms one old moves
from_mid file text terms one old mid moves reads files takes =
    (text, reads, subst (λ (f : Option Files). TakesText f terms one text moves) files takes)

pub script_ends : (file : Option (Bor (List ℕ))) (text : List ℕ) (terms : Terms) (one : Bool) (older : Bool) (size : ℕ) (name : List ℕ)
    (old mid new : Scene) (ended fault : Option Fault) → ended ≡ fault → ReadsScript file old text → KeepsScene old mid
    → EndsLines (TakesText mid.files terms one text) (λ why. IsUnread new why ⊎ SaysNoSteps one text why) older size name mid new fault
    → EndsOperation (operation.Batch file terms one) older size name old new ended
script_ends file text terms one older size name old mid new ended fault is reads kept ends =
    subst (EndsOperation (operation.Batch file terms one) older size name old new) (sym is) (
    elim ends [
      | inl did ↦ inl (
        Change did.0,
        from_mid file text terms one old mid (map step_of did.0.now) reads kept.0 did.1,
        step_from (Change did.0) (as_it_is (may_take_older (Change did.0) && older)) size name mid old new fault kept.0 kept.1 did.2,
      )
      | inr not ↦
          inr (
            (not.0.0 ∙ kept.0, not.0.1 ∙ kept.1),
            (
              not.1.0,
              not.1.1,
              elim not.1.2 [
                | inl none ↦ inl (no_batch file text one old new not.1.0 reads none)
                | inr apart ↦ inr (kind_of_steps apart.0, (apart.0, from_mid file text terms one old mid apart.0 reads kept.0 apart.1, refl), apart.2)
              ],
            ),
          )
    ]
    )
