-- What steps on an image answer, from what is said of their session, and what they answer on bytes.
use Rattle.std.proofs.Common.{◌≡◌, ◌≢◌, ◌==◌, ℕ, Bool, false, List, [], ◌∷◌, length, Option, Some, None, inl, inr, refl, sym, subst, ap}
use Rattle.lfs_block.specs.Disk.{Disk, IsDisk}
use Rattle.lfs_block.specs.declared.mount_fault.MountFault.{MountFault}
use Rattle.lfs_block.specs.declared.mount_fault.MountFault.TheVariants.{Memory as No_memory}
use Rattle.lfs_fs.specs.Cause.{HasCause}
use Rattle.lfs_history.specs.declared.open_fault.OpenFault.{OpenFault}
use Rattle.lfs_history.specs.declared.open_fault.OpenFault.TheVariants as opening
use Rattle.lfs_history.specs.declared.step_fault.StepFault.{StepFault}
use Rattle.lfs_history.specs.declared.step_fault.StepFault.TheVariants.{Refused as Refused_step, RefusedAt, NothingToUndo, NothingToRedo, JournalFull}
use Rattle.lfs_history.specs.Batch.{StopsAt, TakesAll}
use Rattle.lfs_history.specs.History.{History, IsHistory}
use Rattle.lfs_history.specs.Opening.{Opens}
use Rattle.lfs_history.specs.Taking.{Move, Takes}
use Rattle.lfs_request.specs.declared.fault.Fault.{Fault}
use Rattle.lfs_request.specs.declared.fault.Fault.TheVariants.{Image}
use Rattle.lfs_request.specs.Fault.{fault_of_step, fault_of_mount, fault_of_opening}
use Rattle.lfs_request.specs.declared.outcome.Outcome.{Outcome}
use Rattle.lfs_change.specs.Change.{AnswersChange, AnswersImage, DenotesOn, RefusesChange, RefusesDenoting, RefusesImage, RefusesStep, place_of}
use Rattle.lfs_block.proofs.BytesLemmas.{image_of_disk}

-- ---- what is denoted

pub denoted_present : (d : Disk) (journal : List ℕ) (h : History) → DenotesOn d journal h → h.present ≡ d
denoted_present d [] h denotes = ap (λ (x : History). x.present) denotes.0
denoted_present d (byte ∷ bytes) h denotes = ap (λ (x : History). x.present) denotes.is

pub denoted_history : (d : Disk) (journal : List ℕ) (h : History) → DenotesOn d journal h → IsHistory h
denoted_history d [] h denotes = denotes.1
denoted_history d (byte ∷ bytes) h denotes = denotes.history_is

-- bytes whose number isn't 0
pub some_bytes : (bytes : List ℕ) (is_none : Bool) → is_none ≡ length bytes == 0 → is_none ≡ false → bytes ≢ []
some_bytes [] is_none is some = λ same. cc
some_bytes (byte ∷ bytes) is_none is some = λ same. cc

pub opened_denotes : (d : Disk) (journal : List ℕ) (h : History) → journal ≢ [] → Opens d journal h → DenotesOn d journal h
opened_denotes d [] h some opens = absurd (some refl)
opened_denotes d (byte ∷ bytes) h some opens = opens

-- ---- one step

-- a list of one step takes that step
pub one_taken : (step : Move) (old new : History) → TakesAll (step ∷ []) old new → Takes step None old new
one_taken step old new (mid, takes, same) = subst (Takes step None old) (sym same) takes

-- ---- what is answered on an image

mount_refuses : (f : MountFault) (steps : List Move) (at : ℕ) (d : Disk) (journal : List ℕ) → HasCause d f
    → RefusesImage steps at d journal (fault_of_mount f)
mount_refuses No_memory steps at d journal cause = inl refl
mount_refuses _ steps at d journal cause = cause

pub opening_refuses : (f : OpenFault) (steps : List Move) (at : ℕ) (d : Disk) (journal : List ℕ) → RefusesDenoting f d journal
    → RefusesImage steps at d journal (fault_of_opening f)
opening_refuses (opening.Mount f) steps at d journal refuses = mount_refuses f steps at d journal refuses
opening_refuses opening.JournalFormat steps at d journal refuses = refuses
opening_refuses opening.JournalMismatch steps at d journal refuses = refuses
opening_refuses opening.JournalImage steps at d journal refuses = refuses

step_refuses : (f : StepFault) (steps : List Move) (at : ℕ) (d : Disk) (journal : List ℕ) → RefusesStep steps at d journal f
    → RefusesImage steps (place_of at f) d journal (fault_of_step f)
step_refuses (Refused_step r) steps at d journal refuses = inr (inl refuses)
step_refuses (RefusedAt within r) steps at d journal refuses = inr (inr (at, refuses))
step_refuses NothingToUndo steps at d journal refuses = refuses
step_refuses NothingToRedo steps at d journal refuses = refuses
step_refuses JournalFull steps at d journal refuses = refuses

pub stop_refuses : (f : StepFault) (steps : List Move) (at : ℕ) (d : Disk) (journal : List ℕ) (old mid : History) → DenotesOn d journal old
    → StopsAt steps at f old mid → RefusesImage steps (place_of at f) d journal (fault_of_step f)
stop_refuses f steps at d journal old mid denotes stops =
    step_refuses f steps at d journal (record { old = old; denotes = denotes; mid = mid; stops = stops })

-- ---- what is answered on bytes

bytes_refuse : (steps : List Move) (at : ℕ) (d : Disk) (journal : List ℕ) (f : Fault) → IsDisk d → RefusesImage steps at d journal f
    → RefusesChange steps at d.size d.bytes journal f
bytes_refuse steps at d journal (Image f) is refuses = absurd refuses
bytes_refuse steps at d journal f is refuses =
    let same = sym (image_of_disk d is) in
    (subst IsDisk same is, subst (λ (e : Disk). RefusesImage steps at e journal f) same refuses)

change_at : (f : Option Fault) (steps : List Move) (d : Disk) (journal : List ℕ) (o : Outcome) → IsDisk d → AnswersImage f steps d journal o
    → AnswersChange f steps d.size d.bytes journal o
change_at None steps d journal o is changed =
    let same = sym (image_of_disk d is) in
    record {
      old = changed.old;
      denotes = (subst IsDisk same is, subst (λ (e : Disk). DenotesOn e journal changed.old) same changed.denotes);
      new = changed.new;
      takes = changed.takes;
      image_is = changed.image_is;
      journal_is = changed.journal_is;
    }
change_at (Some f) steps d journal o is answers = (answers.0, answers.1, bytes_refuse steps o.at d journal f is answers.2)

pub change_answers : (steps : List Move) (size : ℕ) (bytes journal : List ℕ) (d : Disk) (o : Outcome) → IsDisk d → d.size ≡ size
    → d.bytes ≡ bytes → AnswersImage o.fault steps d journal o → AnswersChange o.fault steps size bytes journal o
change_answers steps size bytes journal d o is e f answers =
    let at = change_at o.fault steps d journal o is answers in
    let by_size = subst (λ (n : ℕ). AnswersChange o.fault steps n d.bytes journal o) e at in
    subst (λ (l : List ℕ). AnswersChange o.fault steps size l journal o) f by_size
