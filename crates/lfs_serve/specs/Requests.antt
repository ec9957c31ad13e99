-- Lists of requests on one image's files, each of which finds the files as the one before left them (own).
use Rattle.std.specs.Prelude.{◌≡◌, ◌⊎◌, ℕ, List, [], ◌∷◌, Option, Some, None}
use Rattle.lfs_request.specs.declared.fault.Fault.{Fault}
use Rattle.lfs_change.specs.Change.{Denotes}
use Rattle.lfs_request.specs.Fault.{status_of}
use Rattle.lfs_exchange.specs.Storing.{IsDisplaced, journal_name}
use Rattle.lfs_history.specs.History.{History}
use Rattle.lfs_host.specs.Files.{Files, bytes_there}
use Rattle.lfs_host.specs.Scene.{Scene}
use Rattle.lfs_request.specs.declared.request.Request.{Request}
use Rattle.lfs_request.specs.declared.operation.Operation.{Operation}
use Rattle.lfs_request.specs.declared.operation.Operation.TheVariants.{Extract, Salvage}
use Rattle.lfs_step.specs.declared.step.Step.{Step}
use Rattle.lfs_step.specs.Runs.{GoesOn}
use Rattle.lfs_serve.specs.Program.{BecomesStep, EndsRequest}

-- the files of a name denote a history: an image, and a journal, which counts as one without bytes where it isn't there
abbrev pub FilesDenote : ℕ → List ℕ → Files → History → Type 0
FilesDenote size name files h =
    (image : List ℕ) × (files name ≡ Some image) × Denotes size image (bytes_there (files (journal_name name))) h

-- ---- requests that were served

-- a request, what was known of the host before and behind it, and the status that it ended with
pub record Served : Type 0 where
  pub request : Request
  pub old : Scene
  pub new : Scene
  pub status : ℕ

-- it was one on the image of this name, with blocks of this size, and it ended as it does, on files that are known
pub record IsServedOn (size : ℕ) (name : List ℕ) (s : Served) (old new : Files) : Type 0 where
  pub size_is : s.request.size ≡ size
  pub name_is : s.request.image.now ≡ name
  pub before : s.old.files ≡ Some old
  pub behind : s.new.files ≡ Some new
  pub ends : EndsRequest s.request s.old s.new s.status

-- one after another
abbrev pub AreServed : ℕ → List ℕ → List Served → Files → Files → Type 0
AreServed size name [] old new = new ≡ old
AreServed size name (s ∷ ss) old new = (mid : Files) × IsServedOn size name s old mid × AreServed size name ss mid new

-- ---- where they lead

-- where an operation leads that was done: as the step that it becomes; a folder that is made leaves the history
abbrev pub OperationGoes : ℕ → Operation → Scene → History → History → Type 0
OperationGoes size (Extract dir path view) s old new = new ≡ old
OperationGoes size (Salvage dir view) s old new = new ≡ old
OperationGoes size operation s old new = (step : Step) × BecomesStep operation size s step × GoesOn size step old new

-- one that wasn't done leaves the history
abbrev pub OperationGoesBy : Option Fault → ℕ → Operation → Scene → History → History → Type 0
OperationGoesBy None size operation s old new = OperationGoes size operation s old new
OperationGoesBy (Some fault) size operation s old new = new ≡ old

-- where a request leads, by the fault that its status tells
abbrev pub RequestGoes : ℕ → Served → History → History → Type 0
RequestGoes size s old new =
    (fault : Option Fault) × (s.status ≡ status_of fault) × OperationGoesBy fault size s.request.operation s.old old new

-- The host refused the new image its place, where the new journal had got its own: the image is the one that was there. The next
-- request that reads the journal is told so, and `forget` keeps that image. Only where a new image was to replace it, with as many
-- blocks of its size, nobody is told: that journal is without changes, and counts as one of an image that nothing was done to.
pub record IsTorn (name : List ℕ) (s : Served) (old new : Files) : Type 0 where
  pub status : s.status ≡ 4
  pub place : IsDisplaced s.new name
  pub image : new name ≡ old name

-- From a history that the files denote each request leads to one that the files denote which it leaves, up to the last, or up to
-- one where the host tore image and journal apart.
abbrev pub LeadOn : ℕ → List ℕ → List Served → Files → Files → History → Type 0
LeadOn size name [] old last h = FilesDenote size name last h
LeadOn size name (s ∷ ss) old last h =
    (mid : Files) × (s.new.files ≡ Some mid)
    × (IsTorn name s old mid
    ⊎ ((next : History) × RequestGoes size s h next × FilesDenote size name mid next × LeadOn size name ss mid last next))

-- the law: so do all lists of requests
abbrev pub RequestsLeadOn : Type 0
RequestsLeadOn = (size : ℕ) (name : List ℕ) (ss : List Served) (old last : Files) (h : History) → FilesDenote size name old h
    → AreServed size name ss old last → LeadOn size name ss old last h
