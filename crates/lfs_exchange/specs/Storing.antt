-- What a step leaves in the files of an image and its journal (own).
use Rattle.std.specs.Prelude.{◌≡◌, ◌⊎◌, ℕ, List, [], ◌∷◌, ◌++◌, Option, Some, None, string_bytes, codes}
use Rattle.lfs_request.specs.declared.fault.Fault.{Fault}
use Rattle.lfs_request.specs.declared.fault.Fault.TheVariants.{Refused}
use Rattle.lfs_request.specs.declared.outcome.Outcome.{Outcome}
use Rattle.lfs_exchange.specs.declared.step_kind.StepKind.{StepKind}
use Rattle.lfs_exchange.specs.declared.step_kind.StepKind.TheVariants.{Asks, Recounts, Forgets}
use Rattle.lfs_exchange.specs.declared.names.Names.{Names}
use Rattle.lfs_host.specs.Files.{Files, KeepsOthers, OnKnown, Replaces, StaysBut}
use Rattle.lfs_host.specs.HostCall.{Renaming}
use Rattle.lfs_host.specs.Scene.{HasRefused, Scene}

-- the name of what is to become the file of a name
abbrev pub new_name : List ℕ → List ℕ
new_name name = name ++ codes ".new"

-- the name of an image's journal
abbrev pub journal_name : List ℕ → List ℕ
journal_name name = name ++ codes ".lfsj"

-- the names of what is to become the image and the journal
abbrev pub new_names : List ℕ → List (List ℕ)
new_names name = new_name name ∷ new_name (journal_name name) ∷ []

-- these are an image's journal's name, and the names of what is to become the two
pub record IsNames (names : Names) (name : List ℕ) : Type 0 where
  pub journal_is : string_bytes names.journal ≡ journal_name name
  pub new_image_is : string_bytes names.new_image ≡ new_name name
  pub new_journal_is : string_bytes names.new_journal ≡ new_name (journal_name name)

-- Both new ones are written, and files stay as they were but for them.
pub record HasNew (name image journal : List ℕ) (old new : Files) : Type 0 where
  pub image_is : new (new_name name) ≡ Some image
  pub journal_is : new (new_name (journal_name name)) ≡ Some journal
  pub others : StaysBut (new_names name) old new

-- What was under the new names is under those of image and journal, and files stay as they were but for these.
pub record HasPlaced (name : List ℕ) (old new : Files) : Type 0 where
  pub image_is : new name ≡ old (new_name name)
  pub journal_is : new (journal_name name) ≡ old (new_name (journal_name name))
  pub no_image : new (new_name name) ≡ None
  pub no_journal : new (new_name (journal_name name)) ≡ None
  pub others : StaysBut (name ∷ journal_name name ∷ new_names name) old new

-- The journal alone got its place, and files stay as they were but for it and leftovers of new ones.
pub record HasPlacedJournal (name : List ℕ) (old new : Files) : Type 0 where
  pub journal_is : new (journal_name name) ≡ old (new_name (journal_name name))
  pub others : StaysBut (journal_name name ∷ new_names name) old new

-- Image and journal have these bytes, nothing is left of new ones, and files stay as they were but for these.
pub record HasBoth (name image journal : List ℕ) (old new : Files) : Type 0 where
  pub image_is : new name ≡ Some image
  pub journal_is : new (journal_name name) ≡ Some journal
  pub no_image : new (new_name name) ≡ None
  pub no_journal : new (new_name (journal_name name)) ≡ None
  pub others : StaysBut (name ∷ journal_name name ∷ new_names name) old new

-- The journal has these bytes, and files stay as they were but for it and leftovers of new ones.
pub record HasJournal (name journal : List ℕ) (old new : Files) : Type 0 where
  pub journal_is : new (journal_name name) ≡ Some journal
  pub others : StaysBut (journal_name name ∷ new_names name) old new

-- the journal's file has these bytes, and nothing is left of a new one
abbrev pub LeavesJournal : Option Files → Option Files → List ℕ → List ℕ → Type 0
LeavesJournal old new name journal = Replaces old new (journal_name name) (new_name (journal_name name)) journal

-- the files of image and journal have the outcome's bytes
abbrev pub LeavesBoth : Option Files → Option Files → List ℕ → Outcome → Type 0
LeavesBoth old new name outcome = OnKnown (HasBoth name outcome.image.items outcome.journal.items) old new

-- the files once a step is done: what is asked changes none, forgetting the journal alone, any other step both
abbrev pub LeavesFiles : StepKind → Option Files → Option Files → List ℕ → Outcome → Type 0
LeavesFiles Asks old new name outcome = new ≡ old
LeavesFiles Recounts old new name outcome = new ≡ old
LeavesFiles Forgets old new name outcome = LeavesJournal old new name outcome.journal.items
LeavesFiles _ old new name outcome = LeavesBoth old new name outcome

-- image and journal stay, but for a leftover of a new journal
abbrev pub SparesJournal : Option Files → Option Files → List ℕ → Type 0
SparesJournal old new name = KeepsOthers old new (new_name (journal_name name))

-- image and journal stay, but for leftovers of new ones
abbrev pub SparesBoth : Option Files → Option Files → List ℕ → Type 0
SparesBoth old new name = OnKnown (StaysBut (new_names name)) old new

-- the image stays, beside the outcome's journal, but for leftovers of new ones
abbrev pub SparesImage : Option Files → Option Files → List ℕ → Outcome → Type 0
SparesImage old new name outcome = OnKnown (HasJournal name outcome.journal.items) old new

-- the host has refused a new image its place
abbrev pub IsDisplaced : Scene → List ℕ → Type 0
IsDisplaced scene name = HasRefused scene (Renaming (new_name name) name)

-- either of these: the image stays alone only if the host refused the new one its place
abbrev pub SparesEither : Scene → Option Files → Option Files → List ℕ → Outcome → Type 0
SparesEither scene old new name outcome = SparesBoth old new name ⊎ (IsDisplaced scene name × SparesImage old new name outcome)

-- the files if the host refused something after a run, which leaves this scene: all of them stay if that was memory
abbrev pub SparesFiles : Fault → StepKind → Scene → Option Files → Option Files → List ℕ → Outcome → Type 0
SparesFiles (Refused refusal) kind scene old new name outcome = new ≡ old
SparesFiles _ Asks scene old new name outcome = new ≡ old
SparesFiles _ Recounts scene old new name outcome = new ≡ old
SparesFiles _ Forgets scene old new name outcome = SparesJournal old new name
SparesFiles _ _ scene old new name outcome = SparesEither scene old new name outcome
