-- The way of a run of the program, from its words to the bytes of an image, and where lists of runs lead (own).
--
-- Each of these says how a run goes on by the next one:
--   0  EndsLine      a word in front of the command that asks for JSON is put aside                           lfsed/specs/Words.antt
--   1  EndsWords     the words are read, as they are or with `--` before a stray one, or refused              lfsed/specs/Words.antt
--   2  EndsNamed     the command that they name explains faults, lists images, or asks for a request or none  lfsed/specs/Words.antt
--   3  EndsRequest   the name of an image that is to be new is spared, and the status tells the fault         lfs_serve/specs/Program.antt
--   4  EndsOperation      a folder is made; or what the operation names is read, and it becomes a step                  lfs_serve/specs/Program.antt
--   5  EndsStep      the files get what the step leaves, or stay                                              lfs_serve/specs/Program.antt
--   6  RunsStep      the step is handed the image's files, with no later commit in them or read so, and is run lfs_serve/specs/Program.antt
--   7  Answers       it is done; or a fault holds, and image and journal stay                                 lfs_step/specs/Outcome.antt
--   8  AnswersDone   a new image, an answer, a journal without changes, or a change                           lfs_step/specs/Outcome.antt
--   9  IsChanged     image and journal denote a history, and what is left denotes the one it leads to         lfs_change/specs/Change.antt
--  10  TakesAll      the steps are taken on it one after another                                              lfs_history/specs/Batch.antt
--  11  Takes         each pushes a change, undoes, redoes or forgets                                          lfs_history/specs/Taking.antt
--  12  Does          a command has room in the history, and a patch is pushed                                 lfs_history/specs/Taking.antt
--  13  Plans         the patch carries the command out on the image                                           lfs_command/specs/Planned.antt
--
-- Where they lead is said at the end: the headline.
use mathlib.Core.Logic.{inl, inr}
use Rattle.std.specs.Prelude.{◌≡◌, ◌⊎◌, ℕ, List, [], ◌∷◌, Option, Some, None, IfSome, MatchOption}
use Rattle.clap.specs.Words.{Row, Text}
use Rattle.lfs_request.specs.declared.fault.Fault.{Fault}
use Rattle.lfs_request.specs.Fault.{status_of}
use Rattle.lfs_history.specs.History.{History}
use Rattle.lfs_exchange.specs.Storing.{IsDisplaced}
use Rattle.lfs_host.specs.Files.{Files}
use Rattle.lfs_host.specs.Scene.{Scene}
use Rattle.lfs_request.specs.declared.request.Request.{Request}
use Rattle.lfs_serve.specs.Requests.{FilesDenote, OperationGoesBy}
use Rattle.lfsed.specs.JsonWord.{plain_words}
use Rattle.lfsed.specs.Words.{EndsLine, EndsNamed, EndsWords}

-- ---- runs

-- a run: its words, what was known of the host before and behind it, and the status that it ended with, as its words end
pub record ProgramRun : Type 0 where
  pub words : List Text
  pub old : Scene
  pub new : Scene
  pub status : ℕ
  pub ends : EndsLine words old new status

-- a request, and what was known of the host when it was taken up
pub record TakenRequest : Type 0 where
  pub request : Request
  pub looked : Scene

-- the request as which a command that is named ended, if it did
abbrev pub asked_named : (named : Option (Text × List Row)) (old new : Scene) (status : ℕ) → EndsNamed named old new status → Option TakenRequest
asked_named named old new status (inr (inl (stated, looked, are, inl (request, asks, ends)))) =
    Some (record { request = request; looked = looked })
asked_named named old new status _ = None

-- the request as which words ended, if they did
abbrev pub asked_words : (words : List Text) (old new : Scene) (status : ℕ) → EndsWords words old new status → Option TakenRequest
asked_words words old new status (inl (read, is_read, named)) = asked_named _ old new status named
asked_words words old new status _ = None

-- the request as which a run ended, if it did
abbrev pub asked_of : ProgramRun → Option TakenRequest
asked_of r = asked_words (plain_words r.words) r.old r.new r.status r.ends

-- a request is on the image of this name, with blocks of this size
abbrev pub IsAskedOn : ℕ → List ℕ → TakenRequest → Type 0
IsAskedOn size name asked = (asked.request.size ≡ size) × (asked.request.image.now ≡ name)

-- a run on files that are known; if it ended as a request, then as one on that image
pub record IsRunOn (size : ℕ) (name : List ℕ) (r : ProgramRun) (old new : Files) : Type 0 where
  pub before : r.old.files ≡ Some old
  pub behind : r.new.files ≡ Some new
  pub on : IfSome (asked_of r) (IsAskedOn size name)

-- one after another, each on the files that the one before left
abbrev pub AreRunsOn : ℕ → List ℕ → List ProgramRun → Files → Files → Type 0
AreRunsOn size name [] old new = new ≡ old
AreRunsOn size name (r ∷ rs) old new = (mid : Files) × IsRunOn size name r old mid × AreRunsOn size name rs mid new

-- ---- where they lead

-- a request leads there, by the fault that the status tells
abbrev pub AskedGoes : ℕ → ℕ → TakenRequest → History → History → Type 0
AskedGoes size status asked old new =
    (fault : Option Fault) × (status ≡ status_of fault) × OperationGoesBy fault size asked.request.operation asked.looked old new

-- so does a run that ended as a request; any other leaves the history
abbrev pub RunGoes : ℕ → ProgramRun → History → History → Type 0
RunGoes size r old new = MatchOption (asked_of r) (new ≡ old) (λ asked. AskedGoes size r.status asked old new)

-- the host refused the new image its place, where the new journal had got its own: the image is the one that was there
pub record IsTornIn (name : List ℕ) (r : ProgramRun) (old new : Files) : Type 0 where
  pub status : r.status ≡ 4
  pub place : IsDisplaced r.new name
  pub image : new name ≡ old name

-- from a history that the files denote each run leads to the one that they denote behind it, up to one where the host tore image and
-- journal apart
abbrev pub RunsLead : ℕ → List ℕ → List ProgramRun → Files → Files → History → Type 0
RunsLead size name [] old last h = FilesDenote size name last h
RunsLead size name (r ∷ rs) old last h =
    (mid : Files) × (r.new.files ≡ Some mid)
    × (IsTornIn name r old mid
    ⊎ ((next : History) × RunGoes size r h next × FilesDenote size name mid next × RunsLead size name rs mid last next))

-- The headline: so do all lists of runs, whatever their words are.
abbrev pub RunsLeadOn : Type 0
RunsLeadOn = (size : ℕ) (name : List ℕ) (rs : List ProgramRun) (old last : Files) (h : History) → FilesDenote size name old h
    → AreRunsOn size name rs old last → RunsLead size name rs old last h
