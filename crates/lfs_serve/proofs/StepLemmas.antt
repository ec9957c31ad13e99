-- How steps end, by what was handed, run and written.
use Rattle.std.proofs.Common.{◌≡◌, ◌⊎◌, ℕ, Bool, true, List, Option, Some, None, sym, ap, subst, ◌∙◌, inl, inr, refl, Bor}
use Rattle.std.specs.Prelude.{Contains, IfSome}
use Rattle.lfs_request.specs.declared.fault.Fault.{Fault}
use Rattle.lfs_request.specs.declared.fault.Fault.TheVariants.{Refused, CannotWrite, Differ}
use Rattle.lfs_request.specs.declared.manner.Manner.{Manner}
use Rattle.lfs_request.specs.View.{start_of}
use Rattle.lfs_request.specs.declared.outcome.Outcome.{Outcome}
use Rattle.lfs_json.specs.declared.form.Form.{Form}
use Rattle.lfs_step.specs.declared.step.Step.{Step}
use Rattle.lfs_step.specs.declared.step.Step.TheVariants.{Ask}
use Rattle.lfs_step.specs.Outcome.{Answers, SendsText, given}
use Rattle.lfs_request.specs.Query.{Question}
use Rattle.lfs_request.specs.declared.query.Query.{Query}
use Rattle.lfs_request.specs.declared.query.Query.TheVariants.{Check, Ls, Blocks, Cat, Diff, Log}
use Rattle.lfs_exchange.specs.StepKind.{kind_of_query}
use Rattle.lfs_exchange.specs.declared.step_kind.StepKind.{StepKind}
use Rattle.lfs_exchange.specs.declared.step_kind.StepKind.TheVariants.{Makes, Asks, Recounts, Changes, Forgets, Adopts}
use Rattle.lfs_exchange.specs.Handing.{HandedBytes, HandsImage, HandsJournal, IsClaimed, IsHanded, HandsQuestion}
use Rattle.lfs_serve.specs.StepKind.{kind_of}
use Rattle.lfs_exchange.specs.Storing.{LeavesFiles, SparesFiles}
use Rattle.lfs_host.specs.Files.{Files, IsTarget}
use Rattle.lfs_host.specs.HostCall.{Flushing}
use Rattle.lfs_host.specs.Scene.{HasClaimed, HasRefused, KeepsScene, Scene}
use Rattle.lfs_open.specs.Blamed.{IsBlamed}
use Rattle.lfs_open.specs.Later.{refused_by}
use Rattle.lfs_serve.specs.LaterRead.{later_read}
use Rattle.lfs_open.specs.ReadBy.{IsReadBy, WantsMemory, IsAskedBy}
use Rattle.lfs_exchange.specs.Printing.{HandsOn}
use Rattle.lfs_serve.specs.Program.{EndsStep, IsUnwritten, RunsStep, StopsStep, TellsVersion, is_answered}

-- ---- the file that a name leads to

-- what is left in it is left in the name's
leaves_target : (kind : StepKind) (old new : Option Files) (name target : List ℕ) (o : Outcome) → IsTarget old name target
    → LeavesFiles kind old new target o → LeavesFiles kind old new name o
leaves_target kind (Some old) new name target o leads leaves = subst (λ (at : List ℕ). LeavesFiles kind (Some old) new at o) leads leaves
leaves_target Asks None new name target o leads leaves = leaves
leaves_target Recounts None new name target o leads leaves = leaves
leaves_target Forgets None new name target o leads leaves = tt
leaves_target Makes None new name target o leads leaves = tt
leaves_target Changes None new name target o leads leaves = tt
leaves_target Adopts None new name target o leads leaves = tt

-- a name leads to itself where no file is known, or none is a link
itself : (files : Option Files) (name : List ℕ) → IsTarget files name name
itself None name = tt
itself (Some files) name = refl

-- and what is spared of it
spares_target : (fault : Fault) (kind : StepKind) (placed : Scene) (old new : Option Files) (name target : List ℕ) (o : Outcome)
    → IsTarget old name target → SparesFiles fault kind placed old new target o → SparesFiles fault kind placed old new name o
spares_target fault kind placed (Some old) new name target o leads spares =
    subst (λ (at : List ℕ). SparesFiles fault kind placed (Some old) new at o) leads spares
spares_target (Refused refusal) kind placed None new name target o leads spares = spares
spares_target _ Asks placed None new name target o leads spares = spares
spares_target _ Recounts placed None new name target o leads spares = spares
spares_target _ Forgets placed None new name target o leads spares = tt
spares_target _ Makes placed None new name target o leads spares = inl tt
spares_target _ Changes placed None new name target o leads spares = inl tt
spares_target _ Adopts placed None new name target o leads spares = inl tt

-- the same by what is known of the target's name, of the files that were there, of the kind and of the outcome
pub leaves_at : (kind other : StepKind) (old mid new : Option Files) (name target at : List ℕ) (o left : Outcome) → IsTarget old name target
    → at ≡ target → mid ≡ old → kind ≡ other → left ≡ o → LeavesFiles kind mid new at left → LeavesFiles other old new name o
leaves_at kind other old mid new name target at o left leads at_is mid_is kind_is left_is leaves =
    leaves_target other old new name target o leads
    (subst (λ (k : StepKind). LeavesFiles k old new target o) kind_is
    (subst (λ (f : Option Files). LeavesFiles kind f new target o) mid_is
    (subst (λ (a : List ℕ). LeavesFiles kind mid new a o) at_is (subst (LeavesFiles kind mid new at) left_is leaves))))

pub spares_at : (fault : Fault) (kind other : StepKind) (placed : Scene) (old mid new : Option Files) (name target at : List ℕ)
    (o left : Outcome) → IsTarget old name target → at ≡ target → mid ≡ old → kind ≡ other → left ≡ o
    → SparesFiles fault kind placed mid new at left → SparesFiles fault other placed old new name o
spares_at fault kind other placed old mid new name target at o left leads at_is mid_is kind_is left_is spares =
    spares_target fault other placed old new name target o leads
    (subst (λ (k : StepKind). SparesFiles fault k placed old new target o) kind_is
    (subst (λ (f : Option Files). SparesFiles fault kind placed f new target o) mid_is
    (subst (λ (a : List ℕ). SparesFiles fault kind placed mid new a o) at_is
    (subst (SparesFiles fault kind placed mid new at) left_is spares))))

-- ---- what calls keep

-- a name leads to the same file of a host whose files are the same
pub target_from : (name at : List ℕ) (mid old : Option Files) → mid ≡ old → IsTarget mid name at → IsTarget old name at
target_from name at mid old same leads = subst (λ (f : Option Files). IsTarget f name at) same leads

-- ---- names that are claimed

has_claimed : (mid new : Scene) (target at : List ℕ) → at ≡ target → new.claimed ≡ mid.claimed → HasClaimed mid target → HasClaimed new at
has_claimed mid new target at is same has =
    subst (λ (a : List ℕ). HasClaimed new a) (sym is)
    (subst (λ (claimed : Option (List (List ℕ))). IfSome claimed (λ names. Contains names target)) (sym same) has)

-- a name that was claimed is so under another spelling, and behind calls that keep what is claimed
pub claimed_at : (kind : StepKind) (mid new : Scene) (target at : List ℕ) → at ≡ target → new.claimed ≡ mid.claimed
    → IsClaimed kind mid target → IsClaimed kind new at
claimed_at Asks mid new target at is same has = tt
claimed_at Recounts mid new target at is same has = tt
claimed_at Makes mid new target at is same has = has_claimed mid new target at is same has
claimed_at Changes mid new target at is same has = has_claimed mid new target at is same has
claimed_at Forgets mid new target at is same has = has_claimed mid new target at is same has
claimed_at Adopts mid new target at is same has = has_claimed mid new target at is same has

-- ---- what is handed

-- of a host whose files are the same
pub handed_from : (kind : StepKind) (place : ℕ) (name : List ℕ) (mid old : Scene) (h : HandedBytes) → mid.files ≡ old.files
    → IsHanded kind place name mid h → IsHanded kind place name old h
handed_from kind place name mid old h files is = record {
  image = subst (λ (f : Option Files). HandsImage kind place f name h.image) files is.image;
  journal = subst (λ (f : Option Files). HandsJournal kind f name h.journal) files is.journal;
}

pub handed_at : (kind : StepKind) (name : List ℕ) (s : Scene) (h : HandedBytes) (place start : ℕ) → place ≡ start → IsHanded kind place name s h
    → IsHanded kind start name s h
handed_at kind name s h place start same is = subst (λ (at : ℕ). IsHanded kind at name s h) same is

-- ---- questions

asked_kind : (by_device : Bool) (size : ℕ) (image : List ℕ) (old new : Question) → IsAskedBy by_device size image old new
    → kind_of_query new ≡ kind_of_query old
asked_kind by_device size image (Check version most) new is = ap (λ (q : Question). kind_of_query q) is
asked_kind by_device size image (Diff other other_size quiet) (Diff read read_size is_quiet) is = refl
asked_kind by_device size image (Diff other other_size quiet) _ is = absurd is
asked_kind by_device size image old new is = ap (λ (q : Question). kind_of_query q) is

hands_kind : (files : Option Files) (query : Query (Bor (List ℕ))) (asked : Question) → HandsQuestion files query asked
    → kind_of_query asked ≡ kind_of_query query
hands_kind files (Check version most) (Check same same_most) is = refl
hands_kind files (Ls path digests) (Ls same_path same_digests) is = refl
hands_kind files (Blocks sums) (Blocks same) is = refl
hands_kind files (Cat path) (Cat text) is = refl
hands_kind files (Diff name size quiet) (Diff other other_size is_quiet) is = refl
hands_kind files Log Log is = refl
hands_kind files _ _ is = absurd is

-- with its other image in hand, and as that is read, a question is of the same kind
pub question_kind : (files : Option Files) (by_device : Bool) (size : ℕ) (image : List ℕ) (query : Query (Bor (List ℕ)))
    (asked question : Question) → HandsQuestion files query asked → IsAskedBy by_device size image asked question
    → kind_of_query question ≡ kind_of_query query
question_kind files by_device size image query asked question hands reads =
    asked_kind by_device size image asked question reads ∙ hands_kind files query asked hands

-- it tells the version of the bytes of which it is asked
pub question_tells : (by_device : Bool) (size : ℕ) (image : List ℕ) (form : Form) (asked question : Question)
    → IsAskedBy by_device size image asked question → TellsVersion (Ask question form) by_device size image
question_tells by_device size image form (Diff old other_size quiet) (Diff new new_size is_quiet) is = tt
question_tells by_device size image form (Diff old other_size quiet) _ is = absurd is
question_tells by_device size image form (Check version most) question is =
    subst (λ (q : Question). TellsVersion (Ask q form) by_device size image) (sym is) refl
question_tells by_device size image form (Ls path digests) question is =
    subst (λ (q : Question). TellsVersion (Ask q form) by_device size image) (sym is) tt
question_tells by_device size image form (Blocks sums) question is =
    subst (λ (q : Question). TellsVersion (Ask q form) by_device size image) (sym is) tt
question_tells by_device size image form (Cat path) question is =
    subst (λ (q : Question). TellsVersion (Ask q form) by_device size image) (sym is) tt
question_tells by_device size image form Log question is =
    subst (λ (q : Question). TellsVersion (Ask q form) by_device size image) (sym is) tt

-- ---- runs

-- what was read of an image that is held whole is noted as it is
pub read_noted : (manner : Manner) (size : ℕ) (old new whole read : List ℕ) → new ≡ read → whole ≡ old → IsReadBy manner.view size whole read
    → IsReadBy manner.view size old new
read_noted manner size old new whole read noted held reads =
    subst (IsReadBy manner.view size old) (sym noted) (subst (λ (xs : List ℕ). IsReadBy manner.view size xs read) held reads)

-- a step that ran on what it was handed, as it was read; nothing was printed after it
pub step_ran : (step : Step) (manner : Manner) (size : ℕ) (name : List ℕ) (old new : Scene) (h : HandedBytes) (image : List ℕ)
    (fault : Option Fault) (after : Option (List ℕ)) (outcome : Outcome) → IsHanded (kind_of step) (start_of manner.view) name old h
    → refused_by manner (later_read step size h.image) ≡ None → TellsVersion step manner.view.by_device size h.image → IsReadBy manner.view size h.image image
    → Answers step (given size image h.journal) outcome → outcome.fault ≡ fault
    → SendsText step (given size image h.journal) outcome old.printed after → new.printed ≡ after → IsBlamed fault new
    → RunsStep step manner size name old new fault outcome
step_ran step manner size name old new h image fault after outcome is none tells reads answers fault_is sends last blamed = record {
  bytes = h;
  handed = is;
  not_later = none;
  tells = tells;
  image = image;
  read = reads;
  answers = answers;
  fault_is = fault_is;
  sends = subst (λ (p : Option (List ℕ)). SendsText step (given size image h.journal) outcome old.printed p) (sym last) sends;
  blamed = blamed;
}

-- ---- how steps end

ends_stopped : (step : Step) (manner : Manner) (size : ℕ) (name : List ℕ) (old new : Scene) (ended : Option Fault) (fault : Fault)
    → ended ≡ Some fault → StopsStep step manner size name old new fault → EndsStep step manner size name old new ended
ends_stopped step manner size name old new ended fault is stops = subst (EndsStep step manner size name old new) (sym is) stops

-- what is refused for a commit of a later version changes nothing
pub ends_later : (step : Step) (manner : Manner) (size : ℕ) (name : List ℕ) (old new : Scene) (h : HandedBytes) (ended : Option Fault) (fault : Fault)
    → ended ≡ Some fault → IsHanded (kind_of step) (start_of manner.view) name old h → refused_by manner (later_read step size h.image) ≡ Some fault
    → KeepsScene old new → EndsStep step manner size name old new ended
ends_later step manner size name old new h ended fault is handed refused keeps =
    ends_stopped step manner size name old new ended fault is (inr (inl (inl (h, handed, refused), keeps)))

-- nor does want of memory to read an image as a device does
pub ends_wanting : (step : Step) (manner : Manner) (size : ℕ) (name : List ℕ) (old new : Scene) (ended : Option Fault) (fault : Fault)
    → ended ≡ Some fault → WantsMemory manner.view fault → KeepsScene old new → EndsStep step manner size name old new ended
ends_wanting step manner size name old new ended fault is wants keeps =
    ends_stopped step manner size name old new ended fault is (inr (inl (inr wants, keeps)))

-- a run that is refused changes no file
pub ends_refused : (step : Step) (manner : Manner) (size : ℕ) (name : List ℕ) (old new : Scene) (ended : Option Fault) (fault : Fault) (outcome : Outcome)
    → ended ≡ Some fault → RunsStep step manner size name old new (Some fault) outcome → new.files ≡ old.files
    → (fault ≡ Differ → HandsOn (kind_of step) new) → EndsStep step manner size name old new ended
ends_refused step manner size name old new ended fault outcome is runs same handed =
    ends_stopped step manner size name old new ended fault is (inl (outcome, runs, same, handed))

-- what the host refuses behind a run spares the files
pub ends_behind : (step : Step) (manner : Manner) (size : ℕ) (name : List ℕ) (old new : Scene) (ended : Option Fault) (fault : Fault) (outcome : Outcome)
    (answered : Option Fault) → is_answered answered ≡ true → ended ≡ Some fault → IsUnwritten old new name fault
    → RunsStep step manner size name old new answered outcome
    → SparesFiles fault (kind_of step) new old.files new.files name outcome → EndsStep step manner size name old new ended
ends_behind step manner size name old new ended fault outcome answered complete is unwritten runs spares =
    ends_stopped step manner size name old new ended fault is (inr (inr (unwritten, (answered, complete, outcome, runs, spares))))

-- nor does what kept the answer to a question from being handed on, which two images differ
pub ends_unhanded : (step : Step) (manner : Manner) (size : ℕ) (name : List ℕ) (old new : Scene) (kind : StepKind) (ended fault : Fault) (outcome : Outcome)
    → kind ≡ kind_of step → fault ≡ Differ → ended ≡ CannotWrite → HasRefused new Flushing → (kind ≡ Asks) ⊎ (kind ≡ Recounts)
    → RunsStep step manner size name old new (Some fault) outcome → new.files ≡ old.files → EndsStep step manner size name old new (Some ended)
ends_unhanded step manner size name old new kind ended fault outcome kind_is differs is refused asks runs same =
    let spares : SparesFiles CannotWrite (kind_of step) new old.files new.files name outcome =
    spares_asked (kind_of step) new old.files new.files name outcome (asks_so kind (kind_of step) kind_is asks) same in
    subst (λ (f : Fault). EndsStep step manner size name old new (Some f)) (sym is)
    (ends_behind step manner size name old new (Some CannotWrite) CannotWrite outcome (Some Differ) refl refl (name, itself old.files name, inl refused)
    (subst (λ (f : Fault). RunsStep step manner size name old new (Some f) outcome) differs runs) spares)
  where
    asks_so : (kind other : StepKind) → kind ≡ other → (kind ≡ Asks) ⊎ (kind ≡ Recounts) → (other ≡ Asks) ⊎ (other ≡ Recounts)
    asks_so kind other same asks = subst (λ (k : StepKind). (k ≡ Asks) ⊎ (k ≡ Recounts)) same asks

    spares_asked : (kind : StepKind) (placed : Scene) (old new : Option Files) (name : List ℕ) (o : Outcome)
        → (kind ≡ Asks) ⊎ (kind ≡ Recounts) → new ≡ old → SparesFiles CannotWrite kind placed old new name o
    spares_asked kind placed old new name o (inl asks) same =
        subst (λ (k : StepKind). SparesFiles CannotWrite k placed old new name o) (sym asks) same
    spares_asked kind placed old new name o (inr recounts) same =
        subst (λ (k : StepKind). SparesFiles CannotWrite k placed old new name o) (sym recounts) same

-- ---- a step on a host with the same files and standard output

runs_from : (step : Step) (manner : Manner) (size : ℕ) (name : List ℕ) (mid old new : Scene) (fault : Option Fault) (outcome : Outcome)
    → mid.files ≡ old.files → mid.printed ≡ old.printed → RunsStep step manner size name mid new fault outcome
    → RunsStep step manner size name old new fault outcome
runs_from step manner size name mid old new fault outcome files printed runs = record {
  bytes = runs.bytes;
  handed = handed_from (kind_of step) (start_of manner.view) name mid old runs.bytes files runs.handed;
  not_later = runs.not_later;
  tells = runs.tells;
  image = runs.image;
  read = runs.read;
  answers = runs.answers;
  fault_is = runs.fault_is;
  sends = subst (λ (p : Option (List ℕ)). SendsText step (given size runs.image runs.bytes.journal) outcome p new.printed) printed runs.sends;
  blamed = runs.blamed;
}

pub step_from : (step : Step) (manner : Manner) (size : ℕ) (name : List ℕ) (mid old new : Scene) (ended : Option Fault)
    → mid.files ≡ old.files → mid.printed ≡ old.printed → EndsStep step manner size name mid new ended
    → EndsStep step manner size name old new ended
step_from step manner size name mid old new None files printed (outcome, runs, leaves, flushed) = (
  outcome,
  runs_from step manner size name mid old new None outcome files printed runs,
  subst (λ (f : Option Files). LeavesFiles (kind_of step) f new.files name outcome) files leaves,
  flushed,
)
step_from step manner size name mid old new (Some fault) files printed (inl (outcome, runs, same, handed)) =
    inl (outcome, runs_from step manner size name mid old new (Some fault) outcome files printed runs, same ∙ files, handed)
step_from step manner size name mid old new (Some fault) files printed (inr (inl (inl (h, handed, refused), keeps))) =
    inr (inl (inl (h, handed_from (kind_of step) (start_of manner.view) name mid old h files handed, refused), (keeps.0 ∙ files, keeps.1 ∙ printed)))
step_from step manner size name mid old new (Some fault) files printed (inr (inl (inr wants, keeps))) =
    inr (inl (inr wants, (keeps.0 ∙ files, keeps.1 ∙ printed)))
step_from step manner size name mid old new (Some fault) files printed (inr (inr (unwritten, (answered, complete, outcome, runs, spares)))) =
    inr (inr (
      (unwritten.0, target_from name unwritten.0 mid.files old.files files unwritten.1, unwritten.2),
      (
        answered,
        complete,
        outcome,
        runs_from step manner size name mid old new answered outcome files printed runs,
        subst (λ (f : Option Files). SparesFiles fault (kind_of step) new f new.files name outcome) files spares,
      ),
    ))

-- the same by the fault that is known
pub step_at : (step : Step) (manner : Manner) (size : ℕ) (name : List ℕ) (mid old new : Scene) (ended known : Option Fault)
    → mid.files ≡ old.files → mid.printed ≡ old.printed → ended ≡ known → EndsStep step manner size name mid new known
    → EndsStep step manner size name old new ended
step_at step manner size name mid old new ended known files printed is ends =
    step_from step manner size name mid old new ended files printed (subst (EndsStep step manner size name mid new) (sym is) ends)
