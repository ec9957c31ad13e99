-- What a step is handed of a host, and which faults the host gives rise to (own).
use Rattle.std.specs.Prelude.{ℕ, ◌≡◌, ◌⊎◌, ⊤, Bool, true, false, List, [], Option}
use Rattle.std.specs.Borrow.{Bor}
use Rattle.lfs_journal.specs.Book.{most_journal}
use Rattle.lfs_fs.specs.Limits.{most_file}
use Rattle.lfs_command.specs.declared.refusal.Refusal.TheVariants.{Memory}
use Rattle.lfs_request.specs.declared.fault.Fault.{Fault}
use Rattle.lfs_request.specs.declared.fault.Fault.TheVariants.{Refused, CannotRead, CannotWrite, Other}
use Rattle.lfs_request.specs.declared.other_fault.OtherFault.TheVariants as other
use Rattle.lfs_exchange.specs.declared.step_kind.StepKind.{StepKind}
use Rattle.lfs_exchange.specs.declared.step_kind.StepKind.TheVariants.{Makes, Asks, Recounts, Changes, Adopts}
use Rattle.lfs_command.specs.declared.command.Command.TheVariants.{Put}
use Rattle.lfs_history.specs.declared.moves.Move.{Move}
use Rattle.lfs_history.specs.declared.moves.Move.TheVariants.{Do}
use Rattle.lfs_history.specs.declared.source.Source.{Source}
use Rattle.lfs_history.specs.declared.source.Source.TheVariants.{File, Input, Said}
use Rattle.lfs_request.specs.declared.query.Query.{Query}
use Rattle.lfs_request.specs.declared.query.Query.TheVariants.{Check, Ls, Blocks, Cat, Diff, Log}
use Rattle.lfs_request.specs.Query.{Question}
use Rattle.lfs_host.specs.declared.read_fault.ReadFault.{ReadFault}
use Rattle.lfs_host.specs.declared.read_fault.ReadFault.TheVariants as reading
use Rattle.lfs_host.specs.Files.{Files, FindsFile, IsMissing, IsTarget, ReadsFile, ReadsFrom, ReadsInput}
use Rattle.lfs_host.specs.HostCall.{Aiming, Finding, Flushing, HostCall, Locking, Reading, ReadingContents, ReadingInput, Renaming, Settling, Writing}
use Rattle.lfs_host.specs.Scene.{HasClaimed, HasRefused, HasWithheld, Scene}
use Rattle.lfs_exchange.specs.Storing.{journal_name, new_name}

-- the most bytes that an image has
abbrev pub most_image : ℕ
most_image = 67108864

-- this run has claimed the name of an image that is to be changed, or whose journal is
abbrev pub IsClaimed : StepKind → Scene → List ℕ → Type 0
IsClaimed Asks scene name = ⊤
IsClaimed Recounts scene name = ⊤
IsClaimed _ scene name = HasClaimed scene name

-- an image is to be changed, or its journal is, or it is made
abbrev pub IsChanging : StepKind → Type 0
IsChanging Asks = ⊥
IsChanging Recounts = ⊥
IsChanging _ = ⊤

-- the bytes of an image that a step is handed: those of its file from a place on, none where the image is made
abbrev pub HandsImage : StepKind → ℕ → Option Files → List ℕ → List ℕ → Type 0
HandsImage Makes place files name image = image ≡ []
HandsImage _ place files name image = ReadsFrom files name place most_image image

-- the bytes of a journal that a step is handed: those of its file, where the step reads one and it is there
abbrev pub HandsJournal : StepKind → Option Files → List ℕ → List ℕ → Type 0
HandsJournal Changes files name journal = FindsFile files (journal_name name) most_journal journal
HandsJournal Recounts files name journal = FindsFile files (journal_name name) most_journal journal
HandsJournal Adopts files name journal = FindsFile files (journal_name name) most_journal journal
HandsJournal _ files name journal = journal ≡ []

-- what is read of a source of contents: a file of the host, or standard input
abbrev pub HandsSource : Source → Option Files → Option (List ℕ) → List ℕ → Type 0
HandsSource Input files typed input = ReadsInput typed most_file input
HandsSource (File name) files typed input = ReadsFile files name.now most_file input
HandsSource (Said bytes) files typed input = input ≡ []

-- what is read for a step on a history: the contents that it puts
abbrev pub HandsInput : Move Source → Option Files → Option (List ℕ) → List ℕ → Type 0
HandsInput (Do (Put path source most) keep) files typed input = HandsSource source files typed input
HandsInput _ files typed input = input ≡ []

-- whether a source is standard input
abbrev pub is_input : Source → Bool
is_input Input = true
is_input _ = false

-- whether a step reads it
abbrev pub reads_input : Move Source → Bool
reads_input (Do (Put path source most) keep) = is_input source
reads_input _ = false

-- where a source is another one, standard input is left as it was
abbrev pub LeavesSource : Source → Scene → Scene → Type 0
LeavesSource source old new = is_input source ≡ false → new.typed ≡ old.typed

-- a step that doesn't read it leaves it as it was
abbrev pub LeavesInput : Move Source → Scene → Scene → Type 0
LeavesInput step old new = reads_input step ≡ false → new.typed ≡ old.typed

-- a query with its other image in hand: the bytes of the file of that name
abbrev pub HandsQuestion : Option Files → Query (Bor (List ℕ)) → Question → Type 0
HandsQuestion files (Check version most) (Check same same_most) = (same ≡ version) × (same_most ≡ most)
HandsQuestion files (Ls path digests) (Ls same_path same_digests) = (same_path ≡ path) × (same_digests ≡ digests)
HandsQuestion files (Blocks sums) (Blocks same) = same ≡ sums
HandsQuestion files (Cat path) (Cat text) = text ≡ path
HandsQuestion files (Diff name size quiet) (Diff other other_size is_quiet) =
    ReadsFile files name.now most_image other.items × (other_size ≡ size) × (is_quiet ≡ quiet)
HandsQuestion files Log Log = ⊤
HandsQuestion files _ _ = ⊥

-- what a step of a kind is handed of an image's files
pub record HandedBytes : Type 0 where
  pub image : List ℕ
  pub journal : List ℕ

-- it is handed this of what is known of a host, where the image begins at a place of its file
pub record IsHanded (kind : StepKind) (place : ℕ) (name : List ℕ) (s : Scene) (h : HandedBytes) : Type 0 where
  pub image : HandsImage kind place s.files name h.image
  pub journal : HandsJournal kind s.files name h.journal

-- what a fault of reading is told as
abbrev pub fault_of_reading : ReadFault → Fault
fault_of_reading reading.Memory = Refused Memory
fault_of_reading reading.CannotRead = CannotRead

-- the same of a file that is written and not read, where the image is made
abbrev pub fault_at : StepKind → ReadFault → Fault
fault_at Makes reading.CannotRead = CannotWrite
fault_at kind fault = fault_of_reading fault

-- ---- faults of the host

-- the host has refused this call, which reads, or memory was refused
abbrev pub IsUnreadBy : HostCall → Scene → Fault → Type 0
IsUnreadBy call scene CannotRead = HasRefused scene call
IsUnreadBy call scene (Refused refusal) = refusal ≡ Memory
IsUnreadBy call scene _ = ⊥

-- the call that reads a source of contents
abbrev pub source_call : Source → HostCall
source_call Input = ReadingInput
source_call (File name) = ReadingContents name.now
source_call (Said bytes) = ReadingInput

-- the host has refused to read some contents, or memory was refused
abbrev pub IsUnread : Scene → Fault → Type 0
IsUnread scene fault = (source : Source) × IsUnreadBy (source_call source) scene fault

-- the call that reads what a step on a history puts
abbrev pub input_call : Move Source → HostCall
input_call (Do (Put path source most) keep) = source_call source
input_call _ = ReadingInput

-- the file of this name isn't read, that of an image that another is compared with, or made of
abbrev pub IsOtherUnread : Scene → List ℕ → Fault → Type 0
IsOtherUnread scene name fault = (fault ≡ Refused Memory) ⊎ ((fault ≡ Other other.CannotRead) × HasRefused scene (Reading name))

-- the host has refused to read the other image of a query
abbrev pub HasRefusedOther : Query (Bor (List ℕ)) → Scene → Type 0
HasRefusedOther (Diff name size quiet) scene = HasRefused scene (Reading name.now)
HasRefusedOther _ scene = ⊥

-- why that isn't read
abbrev pub IsQueryUnread : Query (Bor (List ℕ)) → Scene → Fault → Type 0
IsQueryUnread query scene fault = (fault ≡ Refused Memory) ⊎ ((fault ≡ Other other.CannotRead) × HasRefusedOther query scene)

-- the host has refused to hand on what was printed, or to write the image of this name or its journal, or to give them their places
abbrev pub HasRefusedStore : Scene → List ℕ → Type 0
HasRefusedStore scene name =
    HasRefused scene Flushing
    ⊎ HasRefused scene (Writing (new_name name))
    ⊎ HasRefused scene (Writing (new_name (journal_name name)))
    ⊎ HasRefused scene (Settling (new_name (journal_name name)) (journal_name name))
    ⊎ HasRefused scene (Renaming (new_name name) name)

-- what a step leaves of the image of this name isn't written: the host has refused that, or memory was refused
abbrev pub IsUnwrittenAt : Scene → List ℕ → Fault → Type 0
IsUnwrittenAt scene name CannotWrite = HasRefusedStore scene name
IsUnwrittenAt scene name (Refused refusal) = refusal ≡ Memory
IsUnwrittenAt scene name _ = ⊥

-- the lock of a file is withheld
abbrev pub IsWithheld : Scene → Fault → Type 0
IsWithheld scene fault = (fault ≡ CannotWrite) × HasWithheld scene

-- why the lock of the file of this name isn't got: the host has refused it, or there is no such file; one that is made need not be there
abbrev pub IsNoLock : StepKind → Scene → List ℕ → Fault → Type 0
IsNoLock kind scene at fault =
    ((fault ≡ fault_at kind reading.CannotRead) × HasRefused scene (Locking at))
    ⊎ ((fault ≡ CannotRead) × ¬ (kind ≡ Makes) × IsMissing scene.files at)

-- why it isn't locked: the lock is withheld, or isn't got
abbrev pub IsNotLocked : StepKind → Scene → List ℕ → Fault → Type 0
IsNotLocked kind scene at fault = IsWithheld scene fault ⊎ IsNoLock kind scene at fault

-- it isn't found to which file a name leads: the host has refused that, or memory was refused
abbrev pub IsNotFound : StepKind → Scene → List ℕ → Fault → Type 0
IsNotFound kind scene name fault = ((fault ≡ fault_at kind reading.CannotRead) × HasRefused scene (Aiming name)) ⊎ (fault ≡ Refused Memory)

-- why the file of a name isn't at hand: it isn't found, or one that isn't only read isn't locked
abbrev pub IsNotAimed : StepKind → Scene → List ℕ → Fault → Type 0
IsNotAimed Asks scene name fault = IsNotFound Asks scene name fault
IsNotAimed Recounts scene name fault = IsNotFound Recounts scene name fault
IsNotAimed kind scene name fault =
    IsNotFound kind scene name fault ⊎ ((at : List ℕ) × IsTarget scene.files name at × IsNotLocked kind scene at fault)

-- why a step of a kind can't read the image's file of this name, or its journal: none is read of an image that is made
abbrev pub IsUnreadFor : StepKind → Scene → List ℕ → Fault → Type 0
IsUnreadFor Makes scene at fault = ⊥
IsUnreadFor kind scene at fault = IsUnreadBy (Reading at) scene fault ⊎ IsUnreadBy (Finding (journal_name at)) scene fault

-- why nothing is handed of its files
abbrev pub IsNotTakenUp : StepKind → Scene → List ℕ → Fault → Type 0
IsNotTakenUp kind scene name fault =
    IsNotAimed kind scene name fault ⊎ ((at : List ℕ) × IsTarget scene.files name at × IsUnreadFor kind scene at fault)
