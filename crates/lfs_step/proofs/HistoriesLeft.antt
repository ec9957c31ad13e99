-- What a step leaves denotes the history to which it leads.
use Rattle.std.proofs.Common.{◌≡◌, ◌∷◌, ◌∙◌, ℕ, Bool, true, false, List, [], Option, map, refl, ap, sym, subst, arith}
use Rattle.std.specs.Prelude.{if◌then◌else◌}
use Rattle.lfs_block.specs.Disk.{Disk, IsDisk, image_of}
use Rattle.lfs_journal.specs.Book.{book_of, journal_bytes}
use Rattle.lfs_edit.specs.Formatted.{disk_with}
use Rattle.lfs_history.specs.Batch.{TakesAll}
use Rattle.lfs_history.specs.History.{History, IsHistory, IsMounted, fresh_history}
use Rattle.lfs_history.specs.Meaning.{step_of}
use Rattle.lfs_history.specs.Taking.{Together}
use Rattle.lfs_history.specs.OpeningLaws.{JournalsDenoteOneHistory, SavedHistoriesOpen}
use Rattle.lfs_history.specs.Opening.{journal_of}
use Rattle.lfs_request.specs.declared.fault.Fault.{Fault}
use Rattle.lfs_request.specs.declared.outcome.Outcome.{Outcome}
use Rattle.lfs_change.specs.Change.{Denotes, DenotesOn}
use Rattle.lfs_change.specs.Forgetting.{IsForgotten}
use Rattle.lfs_change.specs.Laws.{ChangedBytesAreDenoted}
use Rattle.lfs_block.proofs.BytesLemmas.{image_of_disk}
use Rattle.lfs_change.proofs.ChangeLemmas.{denoted_present, opened_denotes}
use Rattle.lfs_change.proofs.LawLemmas.{one_denoted, some_bytes}
use Rattle.lfs_step.specs.declared.step.Step.{Step}
use Rattle.lfs_step.specs.declared.step.Step.TheVariants.{Format, Pack, Ask, Forget, Adopt, Change, Tree}
use Rattle.lfs_step.specs.Adopting.{LeavesTakenOver, journal_stays}
use Rattle.lfs_step.specs.Histories.{KeepsHistories, LeavesAdopted, StepsLeaveHistories}
use Rattle.lfs_step.specs.Outcome.{Answers, Given, KeepsBoth}
use Rattle.lfs_step.specs.TreeChanging.{IsAsked}
use Rattle.lfs_adopt.specs.Changed.{changed_blocks}
use Rattle.lfs_step.proofs.AdoptingLemmas.{none_changed}
use Rattle.lfs_step.proofs.OutcomeLemmas.{AnswersBy}
use Rattle.lfs_step.proofs.Unchanged.{unchanged}

-- ---- a new image

pub fresh_is : (d : Disk) → IsDisk d → IsMounted d → IsHistory (fresh_history d)
fresh_is d disk mounts = record {
  past = refl;
  future = refl;
  back = tt;
  on = tt;
  disk = disk;
  mounts = mounts;
  past_mounts = tt;
  future_mounts = tt;
  few = omega arith;
}

begins : SavedHistoriesOpen → (size count : ℕ) (image journal : List ℕ) → IsDisk (disk_with size count image)
    → IsMounted (disk_with size count image) → journal ≡ journal_bytes (book_of size count [] 0)
    → Denotes size image journal (fresh_history (image_of size image))
begins opens size count image journal disk mounts empty =
    let d = disk_with size count image in
    let bytes = journal_bytes (book_of size count [] 0) in
    let opened : DenotesOn d bytes (fresh_history d) =
    opened_denotes d bytes (fresh_history d) (some_bytes (book_of size count [] 0)) (opens (fresh_history d) (fresh_is d disk mounts)) in
    let read : DenotesOn d journal (fresh_history d) = subst (λ (l : List ℕ). DenotesOn d l (fresh_history d)) (sym empty) opened in
    subst (λ (e : Disk). IsDisk e × DenotesOn e journal (fresh_history e)) (sym (image_of_disk d disk)) (disk, read)

-- ---- what is asked

-- where image and journal stay, they denote what they denoted
asked_leaves : (g : Given) (outcome : Outcome) → KeepsBoth g outcome → (old : History) → Denotes g.size g.image g.journal old
    → Denotes g.size outcome.image.items outcome.journal.items old
asked_leaves g outcome (image, journal) old denotes =
    subst (λ (l : List ℕ). Denotes g.size l outcome.journal.items old) (sym image)
    (subst (λ (l : List ℕ). Denotes g.size g.image l old) (sym journal) denotes)

-- ---- where all else is forgotten

-- the image mounts, whatever its journal was
forgets : SavedHistoriesOpen → (g : Given) (outcome : Outcome) → IsForgotten g.size g.image outcome
    → Denotes g.size outcome.image.items outcome.journal.items (fresh_history (image_of g.size g.image))
forgets opens g outcome is =
    let d = image_of g.size g.image in
    let h = fresh_history d in
    let bytes = journal_bytes (journal_of h) in
    let opened : DenotesOn d bytes h = opened_denotes d bytes h (some_bytes (journal_of h)) (opens h is.denotes.1.1) in
    subst (λ (l : List ℕ). Denotes g.size l outcome.journal.items h) (sym is.image_is)
    (subst (λ (l : List ℕ). Denotes g.size g.image l h) (sym is.journal_is) (is.denotes.0, opened))

-- ---- where an image is taken over

-- whether the journal stays
abbrev pub does_stay : Given → Outcome → Bool
does_stay g outcome = journal_stays (changed_blocks (image_of g.size g.image) (image_of g.size outcome.image.items)) g.journal

-- no block changes then
pub no_block : (g : Given) (outcome : Outcome) → does_stay g outcome ≡ true
    → changed_blocks (image_of g.size g.image) (image_of g.size outcome.image.items) ≡ []
no_block g outcome stays = none_changed (changed_blocks (image_of g.size g.image) (image_of g.size outcome.image.items)) g.journal stays

-- and the image stays with the journal
pub both_stay : (replaces : Bool) (g : Given) (outcome : Outcome) → LeavesTakenOver replaces g.size g.image g.journal outcome
    → does_stay g outcome ≡ true → KeepsBoth g outcome
both_stay replaces g outcome taken stays =
    let d = image_of g.size g.image in
    let e = image_of g.size outcome.image.items in
    let fresh = journal_bytes (journal_of (fresh_history e)) in (
      unchanged d e taken.old taken.adopted.disk taken.adopted.size taken.adopted.count (no_block g outcome stays),
      taken.journal_is ∙ ap (λ (t : Bool). if t then g.journal else fresh) stays,
    )

-- else a history begins
adopted_begins : SavedHistoriesOpen → (replaces : Bool) (g : Given) (outcome : Outcome)
    → LeavesTakenOver replaces g.size g.image g.journal outcome → does_stay g outcome ≡ false
    → Denotes g.size outcome.image.items outcome.journal.items (fresh_history (image_of g.size outcome.image.items))
adopted_begins opens replaces g outcome taken goes =
    let e = image_of g.size outcome.image.items in
    let h = fresh_history e in
    let fresh = journal_bytes (journal_of h) in
    let opened : DenotesOn e fresh h = opened_denotes e fresh h (some_bytes (journal_of h)) (opens h taken.history) in
    let left : outcome.journal.items ≡ fresh = taken.journal_is ∙ ap (λ (t : Bool). if t then g.journal else fresh) goes in
    (taken.adopted.disk, subst (λ (l : List ℕ). DenotesOn e l h) (sym left) opened)

adopted_leaves : SavedHistoriesOpen → (replaces : Bool) (g : Given) (outcome : Outcome)
    → LeavesTakenOver replaces g.size g.image g.journal outcome → (t : Bool) → does_stay g outcome ≡ t → LeavesAdopted t g outcome
adopted_leaves opens replaces g outcome taken true stays = λ old denotes. asked_leaves g outcome (both_stay replaces g outcome taken stays) old denotes
adopted_leaves opens replaces g outcome taken false goes = adopted_begins opens replaces g outcome taken goes

-- ---- any step

pub steps_leave_histories : JournalsDenoteOneHistory → SavedHistoriesOpen → ChangedBytesAreDenoted → StepsLeaveHistories
steps_leave_histories one opens denoted (Format count limits) g outcome (formatted, empty) =
    let mount = formatted.mount in
    begins opens g.size count outcome.image.items outcome.journal.items formatted.disk (mount.volume, mount.holds, mount.sound) empty
steps_leave_histories one opens denoted (Pack count limits rows) g outcome (is, empty) = λ packed are.
    let packs = is packed are in
    begins opens g.size count outcome.image.items outcome.journal.items packs.disk (packs.volume, packs.holds, packs.sound) empty
steps_leave_histories one opens denoted (Ask query form) g outcome both = λ old denotes. asked_leaves g outcome both old denotes
steps_leave_histories one opens denoted Forget g outcome forgotten = forgets opens g outcome forgotten
steps_leave_histories one opens denoted (Adopt form replaces) g outcome taken =
    adopted_leaves opens replaces g outcome taken (does_stay g outcome) refl
steps_leave_histories one opens denoted (Change steps) g outcome changes = λ old denotes.
    let moves = map step_of steps.now in
    let same = one_denoted one (image_of g.size g.image) g.journal changes.old old changes.denotes.1 denotes.1 in (
      changes.new,
      subst (λ (h : History). TakesAll moves h changes.new) same changes.takes,
      denoted moves g.size g.image g.journal outcome changes,
    )
steps_leave_histories one opens denoted (Tree changing keep) g outcome (asked, is, changes) = λ old denotes.
    let moves = Together asked keep ∷ [] in
    let d = image_of g.size g.image in
    let same = one_denoted one d g.journal changes.old old changes.denotes.1 denotes.1 in
    let present : d ≡ old.present = sym (denoted_present d g.journal old denotes.1) in (
      changes.new,
      (
        asked,
        subst (λ (x : Disk). IsAsked changing x asked) present is,
        subst (λ (h : History). TakesAll moves h changes.new) same changes.takes,
      ),
      denoted moves g.size g.image g.journal outcome changes,
    )

pub keeps : StepsLeaveHistories → (step : Step) (g : Given) (outcome : Outcome) → Answers step g outcome → KeepsHistories step g outcome
keeps leaves step g outcome answers none =
    leaves step g outcome (subst (λ (f : Option Fault). AnswersBy f step g outcome) none answers)
