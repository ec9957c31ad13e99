-- What steps on bytes leave, by the laws of histories.
use Rattle.std.proofs.Common.{◌≡◌, ◌≢◌, ℕ, List, [], ◌∷◌, Option, None, Some, map, refl, sym, ◌∙◌, ap, subst}
use Rattle.lfs_block.specs.Disk.{Disk, IsDisk, image_of}
use Rattle.lfs_fs.specs.Reading.{reading_of}
use Rattle.lfs_fs.specs.Holds.{Holds}
use Rattle.lfs_fs.specs.Mounts.{Mounts}
use Rattle.lfs_journal.specs.Book.{Book, bytes_in, journal_bytes}
use Rattle.lfs_command.specs.Command.{Asked}
use Rattle.lfs_history.specs.Batch.{TakesAll}
use Rattle.lfs_history.specs.History.{History, IsHistory}
use Rattle.lfs_history.specs.Laws.{IsCarriedOut, CommandsPushEquations, RunsKeepHistories, StepsKeepSize, UndoIsExact}
use Rattle.lfs_history.specs.Laws.{UndoIsExactAsFarAsKept}
use Rattle.lfs_history.specs.Opening.{journal_of}
use Rattle.lfs_history.specs.OpeningLaws.{JournalsDenoteOneHistory, SavedHistoriesOpen}
use Rattle.lfs_history.specs.Taking.{Move, Do, Undo, Run}
use Rattle.lfs_request.specs.declared.outcome.Outcome.{Outcome}
use Rattle.lfs_change.specs.Change.{Denotes, DenotesOn, IsChanged}
use Rattle.lfs_change.specs.Laws.{ChangedBytesAreDenoted, ChangedBytesAreEquations, UndoneBytesStandAgain}
use Rattle.lfs_block.proofs.BytesLemmas.{image_of_disk}
use Rattle.lfs_change.proofs.ChangeLemmas.{denoted_present, denoted_history, one_taken, opened_denotes}

-- ---- what steps leave

-- a journal has bytes
pub some_bytes : (j : Book) → journal_bytes j ≢ []
unfolding bytes_in
some_bytes j none = cc

-- the new present image is an image of blocks of the same size
pub record IsLeft (size : ℕ) (h : History) : Type 0 where
  pub history : IsHistory h
  pub size_is : h.present.size ≡ size

-- steps keep the size of the blocks
size_kept : RunsKeepHistories → StepsKeepSize → (steps : List Move) (old new : History) → TakesAll steps old new → IsHistory old
    → new.present.size ≡ old.present.size
size_kept keep keep_size [] old new same is = ap (λ (h : History). h.present.size) same
size_kept keep keep_size (step ∷ steps) old new (mid, takes, later) is =
    let on = keep (step ∷ []) (None ∷ []) old mid (mid, takes, refl) is in
    size_kept keep keep_size steps mid new later on ∙ keep_size step None old mid is takes

steps_left : RunsKeepHistories → StepsKeepSize → (steps : List Move) (size : ℕ) (image journal : List ℕ) (o : Outcome)
    → (changes : IsChanged steps (Denotes size image journal) o) → IsLeft size changes.new
steps_left keep keep_size steps size image journal o is =
    let old = denoted_history (image_of size image) journal is.old is.denotes.1 in
    let present = denoted_present (image_of size image) journal is.old is.denotes.1 in
    record {
      history = keep steps (map (λ _. None) steps) is.old is.new is.takes old;
      size_is = size_kept keep keep_size steps is.old is.new is.takes old ∙ ap (λ (d : Disk). d.size) present;
    }

-- bytes of an image are it
left_image : (size : ℕ) (h : History) (bytes : List ℕ) → IsLeft size h → bytes ≡ h.present.bytes → h.present ≡ image_of size bytes
left_image size h bytes is same =
    sym (image_of_disk h.present is.history.disk) ∙ ap (λ (n : ℕ). image_of n h.present.bytes) is.size_is ∙ ap (image_of size) (sym same)

-- and they denote it with the bytes of its journal
left_denotes : SavedHistoriesOpen → (size : ℕ) (h : History) (image journal : List ℕ) → IsLeft size h → image ≡ h.present.bytes
    → journal ≡ journal_bytes (journal_of h) → Denotes size image journal h
left_denotes opens size h image journal is image_is journal_is =
    let present = left_image size h image is image_is in
    let here : DenotesOn h.present (journal_bytes (journal_of h)) h =
    opened_denotes h.present (journal_bytes (journal_of h)) h (some_bytes (journal_of h)) (opens h is.history) in (
      subst IsDisk present is.history.disk,
      subst (λ (bytes : List ℕ). DenotesOn (image_of size image) bytes h) (sym journal_is)
          (subst (λ (d : Disk). DenotesOn d (journal_bytes (journal_of h)) h) present here),
    )

pub bytes_are_denoted : RunsKeepHistories → StepsKeepSize → SavedHistoriesOpen → ChangedBytesAreDenoted
bytes_are_denoted keep keep_size opens steps size image journal o changes =
    let is = steps_left keep keep_size steps size image journal o changes in
    left_denotes opens size changes.new o.image.items o.journal.items is changes.image_is changes.journal_is

-- ---- what a command leaves

pub bytes_are_equations : ChangedBytesAreDenoted → CommandsPushEquations → ChangedBytesAreEquations
bytes_are_equations denoted push asked keep size image journal o v t changes holds mounts =
    let is = changes in
    let old = denoted_present (image_of size image) journal is.old is.denotes.1 in
    let new = denoted_present (image_of size o.image.items) o.journal.items is.new
    (denoted (Do asked keep ∷ []) size image journal o changes).1 in
    let does = one_taken (Do asked keep) is.old is.new is.takes in
    let held : Holds (reading_of is.old.present) v = subst (λ (d : Disk). Holds (reading_of d) v) (sym old) holds in
    let mounted : Mounts is.old.present t = subst (λ (d : Disk). Mounts d t) (sym old) mounts in
    subst (λ (d : Disk). IsCarriedOut asked d v t) new (push asked keep is.old is.new v t does held mounted).present

-- ---- what bytes denote

pub one_denoted : JournalsDenoteOneHistory → (d : Disk) (journal : List ℕ) (h k : History) → DenotesOn d journal h → DenotesOn d journal k
    → h ≡ k
one_denoted one d [] h k first second = first.0 ∙ sym second.0
one_denoted one d (byte ∷ bytes) h k first second = one d (byte ∷ bytes) h k first second

-- a command that is taken back leaves the image, however much of the past is kept
image_again : UndoIsExact → UndoIsExactAsFarAsKept → (asked : Asked) (keep : Option ℕ) (old new : History)
    → Run (Do asked keep ∷ Undo 1 ∷ []) (None ∷ None ∷ []) old new → new.present ≡ old.present
image_again all kept asked None old new run = (all asked old new run).0
image_again all kept asked (Some keep) old new run = (kept asked keep old new run).0

pub bytes_stand_again : ChangedBytesAreDenoted → JournalsDenoteOneHistory → UndoIsExact → UndoIsExactAsFarAsKept → UndoneBytesStandAgain
bytes_stand_again denoted one all kept asked keep size image journal done undone first second =
    let mid = (denoted (Do asked keep ∷ []) size image journal done first).1 in
    let same : second.old ≡ first.new = one_denoted one (image_of size done.image.items) done.journal.items second.old first.new
    second.denotes.1 mid in
    let takes : TakesAll (Undo 1 ∷ []) first.new second.new = subst (λ (h : History). TakesAll (Undo 1 ∷ []) h second.new) same second.takes in
    let does = one_taken (Do asked keep) first.old first.new first.takes in
    let run : Run (Do asked keep ∷ Undo 1 ∷ []) (None ∷ None ∷ []) first.old second.new = (first.new, does, takes) in
    let back = image_again all kept asked keep first.old second.new run in
    second.image_is ∙ ap (λ (d : Disk). d.bytes) (back ∙ denoted_present (image_of size image) journal first.old first.denotes.1)
