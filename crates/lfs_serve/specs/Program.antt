-- What the program does with the files of a host (own).
use Rattle.std.specs.Prelude.{ℕ, ◌≡◌, ◌⊎◌, ◌&&◌, ⊤, Bool, true, false, List, [], ◌∷◌, Option, Some, None, map}
use Rattle.lfs_request.specs.declared.fault.Fault.{Fault}
use Rattle.lfs_request.specs.declared.fault.Fault.TheVariants.{CannotWrite, Differ}
use Rattle.lfs_request.specs.declared.manner.Manner.{Manner}
use Rattle.lfs_request.specs.declared.outcome.Outcome.{Outcome}
use Rattle.lfs_request.specs.Fault.{status_of}
use Rattle.lfs_request.specs.Query.{Question}
use Rattle.lfs_request.specs.declared.query.Query.TheVariants.{Check}
use Rattle.lfs_request.specs.View.{start_of, complete_view}
use Rattle.lfs_history.specs.Filling.{bytes_given}
use Rattle.lfs_history.specs.Meaning.{step_by, step_of}
use Rattle.lfs_history.specs.Taking as change
use Rattle.lfs_host.specs.Files.{IsMissing, IsTarget}
use Rattle.lfs_host.specs.HostCall.{Sparing}
use Rattle.lfs_host.specs.Scene.{HasRefused, KeepsScene, Scene}
use Rattle.lfs_pack.specs.declared.pack_row.PackRow.{PackRow}
use Rattle.lfs_request.specs.declared.request.Request.{Request}
use Rattle.lfs_request.specs.declared.operation.Operation.{Operation}
use Rattle.lfs_request.specs.declared.operation.Operation.TheVariants.{Format, Pack, Repack, Extract, Salvage, Ask, Forget, Adopt, Change, Tree, Batch}
use Rattle.lfs_open.specs.Blamed.{IsBlamed}
use Rattle.lfs_open.specs.Extent.{IsExtent}
use Rattle.lfs_step.specs.declared.step.Step.{Step}
use Rattle.lfs_step.specs.declared.step.Step.TheVariants as step
use Rattle.lfs_step.specs.Outcome.{Answers, SendsText, given}
use Rattle.lfs_step.specs.Step.{may_take_older}
use Rattle.lfs_exchange.specs.declared.step_kind.StepKind.{StepKind}
use Rattle.lfs_exchange.specs.declared.step_kind.StepKind.TheVariants.{Makes, Changes, Forgets, Adopts}
use Rattle.lfs_exchange.specs.Handing.{HandedBytes, HandsInput, HandsQuestion, IsHanded, IsNotTakenUp, IsQueryUnread, IsUnreadBy, IsUnwrittenAt, input_call, reads_input}
use Rattle.lfs_exchange.specs.Printing.{HandsOn}
use Rattle.lfs_exchange.specs.StepKind.{kind_of_query, kind_of_steps}
use Rattle.lfs_serve.specs.StepKind.{kind_of}
use Rattle.lfs_exchange.specs.Storing.{LeavesFiles, SparesFiles}
use Rattle.lfs_serve.specs.Batching.{BecomesBatch, BecomesNoBatch}
use Rattle.lfs_open.specs.Extracting.{EndsExtract}
use Rattle.lfs_open.specs.HostFolder.{PacksFolder, ReadsNoFolder}
use Rattle.lfs_open.specs.Later.{refused_by}
use Rattle.lfs_serve.specs.LaterRead.{later_read}
use Rattle.lfs_open.specs.ReadBy.{IsAskedBy, IsReadBy, WantsMemory, told_version}
use Rattle.lfs_open.specs.Repacking.{PacksSource, RefusesSource}
use Rattle.lfs_open.specs.Salvaging.{EndsSalvage}
use Rattle.lfs_serve.specs.Trees.{BecomesChange, IsNotReadFor, IsReadFirst, change_reads_input}

-- ---- a step

-- a check tells the disk version of the image with which these bytes begin
abbrev pub TellsVersion : Step → Bool → ℕ → List ℕ → Type 0
TellsVersion (step.Ask (Check version most) form) by_device size image = version ≡ told_version by_device size image
TellsVersion _ by_device size image = Unit {0}

-- `run` was handed what is known of an image's files, in which nothing was to be refused as later, read in a manner; it answered this
-- outcome, and said so much of it.
pub record RunsStep (step : Step) (manner : Manner) (size : ℕ) (name : List ℕ) (old new : Scene) (fault : Option Fault) (outcome : Outcome)
    : Type 0 where
  pub bytes : HandedBytes
  pub handed : IsHanded (kind_of step) (start_of manner.view) name old bytes
  pub not_later : refused_by manner (later_read step size bytes.image) ≡ None
  pub tells : TellsVersion step manner.view.by_device size bytes.image
  pub image : List ℕ
  pub read : IsReadBy manner.view size bytes.image image
  pub answers : Answers step (given size image bytes.journal) outcome
  pub fault_is : outcome.fault ≡ fault
  pub sends : SendsText step (given size image bytes.journal) outcome old.printed new.printed
  pub blamed : IsBlamed fault new

-- a step is refused for a commit of a later version in what it was to be done on
abbrev pub IsLater : Step → Manner → ℕ → List ℕ → Scene → Fault → Type 0
IsLater step manner size name old fault =
    (h : HandedBytes) × IsHanded (kind_of step) (start_of manner.view) name old h × (refused_by manner (later_read step size h.image) ≡ Some fault)

-- a question is answered: nothing is refused, two images differ, or a file in its entry is longer than is asked
abbrev pub is_answered : Option Fault → Bool
is_answered None = true
is_answered (Some Differ) = true
is_answered (Some fault) = false

-- the host has refused to write what a step leaves of the file that a name leads to, or memory was refused
abbrev pub IsUnwritten : Scene → Scene → List ℕ → Fault → Type 0
IsUnwritten old new name fault = (at : List ℕ) × IsTarget old.files name at × IsUnwrittenAt new at fault

-- why a step wasn't done: `run` refused it, or said of two images that they differ, or which files in their entries are longer than is
-- asked, which is handed on; a commit of a later version was refused, or memory was wanting to read the image; or the host refused
-- something behind that
abbrev pub StopsStep : Step → Manner → ℕ → List ℕ → Scene → Scene → Fault → Type 0
StopsStep step manner size name old new fault =
    ((outcome : Outcome) × RunsStep step manner size name old new (Some fault) outcome × (new.files ≡ old.files)
    × (fault ≡ Differ → HandsOn (kind_of step) new))
    ⊎ ((IsLater step manner size name old fault ⊎ WantsMemory manner.view fault) × KeepsScene old new)
    ⊎ (IsUnwritten old new name fault × ((answered : Option Fault) × (is_answered answered ≡ true) × (outcome : Outcome)
    × RunsStep step manner size name old new answered outcome
    × SparesFiles fault (kind_of step) new old.files new.files name outcome))

-- how a step on an image's file ends: done, the files have the bytes of the outcome, and an answer is handed on; or with a fault
abbrev pub EndsStep : Step → Manner → ℕ → List ℕ → Scene → Scene → Option Fault → Type 0
EndsStep step manner size name old new None =
    (outcome : Outcome) × RunsStep step manner size name old new None outcome
    × LeavesFiles (kind_of step) old.files new.files name outcome × HandsOn (kind_of step) new
EndsStep step manner size name old new (Some fault) = StopsStep step manner size name old new fault

-- ---- an operation

-- the step that an operation becomes on blocks of a size, with all that is read of a host for it in hand
abbrev pub BecomesStep : Operation → ℕ → Scene → Step → Type 0
BecomesStep (Format count limits) size s (step.Format blocks stated) = (blocks ≡ count) × (stated ≡ limits)
BecomesStep (Pack extent limits dir most) size s (step.Pack count stated rows) =
    PacksFolder s.tree dir.now most rows.now × IsExtent size limits rows.now extent count × (stated ≡ limits)
BecomesStep (Repack source extent said most) size s (step.Pack count stated rows) = PacksSource source extent said most size s.files count stated rows.now
BecomesStep (Ask query form view) size s (step.Ask question said) =
    (handed : Question) × (image : List ℕ) × HandsQuestion s.files query handed × IsAskedBy view.by_device size image handed question
    × (said ≡ form)
BecomesStep Forget size s step.Forget = ⊤
BecomesStep (Adopt form replaces) size s (step.Adopt said asked) = (said ≡ form) × (asked ≡ replaces)
BecomesStep (Change move) size s (step.Change steps) =
    (read : List ℕ) × HandsInput move s.files s.typed read × (map step_of steps.now ≡ step_by (bytes_given read) move ∷ [])
BecomesStep (Tree change keep) size s (step.Tree became kept) = BecomesChange change s became × (kept ≡ keep)
BecomesStep (Batch file terms one) size s (step.Change steps) = BecomesBatch file terms one s (map step_of steps.now)
BecomesStep _ size s _ = ⊥

-- the manner in which the image is read that an operation is done on: as all of its file, as it is, or as the operation looks at it
abbrev pub as_it_is : Bool → Manner
as_it_is older = record { takes_older = older; view = complete_view }

abbrev pub manner_of : Operation → Bool → Manner
manner_of (Extract dir path view) older = record { takes_older = older; view = view }
manner_of (Salvage dir view) older = record { takes_older = older; view = view }
manner_of (Ask query form view) older = record { takes_older = older; view = view }
manner_of _ older = as_it_is older

-- the kind of that step, which is known before the image's files are taken up, once a folder or a script is read
abbrev pub HasKind : Operation → Scene → StepKind → Type 0
HasKind (Format count limits) s kind = kind ≡ Makes
HasKind (Pack extent limits dir most) s kind = (kind ≡ Makes) × ((rows : List PackRow) × PacksFolder s.tree dir.now most rows)
HasKind (Repack source extent said most) s kind = kind ≡ Makes
HasKind (Extract dir path view) s kind = ⊥
HasKind (Salvage dir view) s kind = ⊥
HasKind (Ask query form view) s kind = kind ≡ kind_of_query query
HasKind Forget s kind = kind ≡ Forgets
HasKind (Adopt form replaces) s kind = kind ≡ Adopts
HasKind (Change move) s kind = kind ≡ Changes
HasKind (Tree change keep) s kind = (kind ≡ Changes) × IsReadFirst change s
HasKind (Batch file terms one) s kind = (moves : List change.Move) × BecomesBatch file terms one s moves × (kind ≡ kind_of_steps moves)

-- why what is read for an operation isn't, but for the image's files: its folder, its script, or contents, or another image, also as it is read
abbrev pub IsNotRead : Operation → Scene → Scene → Fault → Type 0
IsNotRead (Pack extent limits dir most) old new why = ReadsNoFolder old.tree dir.now new why
IsNotRead (Tree change keep) old new why = IsNotReadFor change old new why
IsNotRead (Batch file terms one) old new why = BecomesNoBatch file one old new why
IsNotRead (Change move) old new why = IsUnreadBy (input_call move) new why
IsNotRead (Repack source extent said most) old new why = RefusesSource source old new why
IsNotRead (Ask query form view) old new why = IsQueryUnread query new why
IsNotRead _ old new why = ⊥

-- why no step of an operation is run: what is read for it isn't, or its image's files aren't taken up
abbrev pub IsNotBegun : Operation → List ℕ → Scene → Scene → Fault → Type 0
IsNotBegun operation name old new why =
    IsNotRead operation old new why ⊎ ((kind : StepKind) × HasKind operation old kind × IsNotTakenUp kind new name why)

-- how an operation on an image's file ends: as a folder that is made; as the step that it becomes, on an older state only if that step may take
-- one; or before that, with nothing changed
abbrev pub EndsOperation : Operation → Bool → ℕ → List ℕ → Scene → Scene → Option Fault → Type 0
EndsOperation (Extract dir path view) older size name old new fault =
    EndsExtract (record { takes_older = older; view = view }) size name path.now dir.now old new fault
EndsOperation (Salvage dir view) older size name old new fault =
    EndsSalvage view size name dir.now old new fault
EndsOperation operation older size name old new fault =
    ((step : Step) × BecomesStep operation size old step × EndsStep step (manner_of operation (may_take_older step && older)) size name old new fault)
    ⊎ (KeepsScene old new × ((why : Fault) × (fault ≡ Some why) × IsNotBegun operation name old new why))

-- ---- what is left besides

-- whether an operation reads standard input: a file that is put from there, or a script that comes there
abbrev pub operation_reads_input : Operation → Bool
operation_reads_input (Change move) = reads_input move
operation_reads_input (Tree change keep) = change_reads_input change
operation_reads_input (Batch None terms one) = true
operation_reads_input _ = false

-- whether an operation makes a folder
abbrev pub makes_folder : Operation → Bool
makes_folder (Extract dir path view) = true
makes_folder (Salvage dir view) = true
makes_folder _ = false

-- what is left on standard input is as it was but where the operation reads it, and what was made in new folders but where it makes one
abbrev pub OperationLeavesRest : Operation → Scene → Scene → Type 0
OperationLeavesRest operation old new =
    (operation_reads_input operation ≡ false → new.typed ≡ old.typed) × (makes_folder operation ≡ false → new.made ≡ old.made)

-- ---- requests

-- nothing is under the name of an image that is to be new
abbrev pub IsSpared : Request → Scene → Type 0
IsSpared request scene = request.is_new ≡ true → IsMissing scene.files request.image.now

-- it is taken, and nothing is changed
abbrev pub IsNotSpared : Request → Scene → Scene → Option Fault → Type 0
IsNotSpared request old new fault = (request.is_new ≡ true) × (fault ≡ Some CannotWrite) × HasRefused new (Sparing request.image.now) × KeepsScene old new

-- how a request ends, and with which status: as its operation, over older states where they are asked for, or since the name of an image that
-- is to be new is taken
pub record EndsRequest (request : Request) (old new : Scene) (status : ℕ) : Type 0 where
  pub fault : Option Fault
  pub ends : (IsSpared request old × EndsOperation request.operation request.takes_older request.size request.image.now old new fault)
      ⊎ IsNotSpared request old new fault
  pub status_is : status ≡ status_of fault
  pub rest : OperationLeavesRest request.operation old new
