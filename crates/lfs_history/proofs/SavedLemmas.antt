-- What is saved of a history opens as it was.
use Rattle.std.proofs.Common.{◌≡◌, inl, ℕ, zero, suc, List, [], ◌∷◌, ◌++◌, refl, ap, sym, ◌∙◌, subst, arith}
use Rattle.std.specs.Prelude.{reverse, Contains}
use Rattle.std.specs.List.{AllByRecursion}
use Rattle.lfs_block.specs.Disk.{Disk, IsDisk}
use Rattle.lfs_block.specs.Patch.{ChangeSet, applied, reverted}
use Rattle.lfs_block.specs.declared.mount_fault.MountFault.{MountFault}
use Rattle.lfs_block.specs.declared.mount_fault.MountFault.TheVariants.{Memory}
use Rattle.lfs_fs.specs.Cause.{HasCause, IsOfFormat}
use Rattle.lfs_fs.specs.Mounts.{MountedHaveNoCause}
use Rattle.lfs_fs.specs.Tree.{tree}
use Rattle.lfs_journal.specs.Book.{Book, SpellsJournal, journal_bytes}
use Rattle.lfs_journal.specs.Laws.{BooksAreReadOnce}
use Rattle.lfs_history.specs.declared.open_fault.OpenFault.{OpenFault}
use Rattle.lfs_history.specs.declared.open_fault.OpenFault.TheVariants.{Mount, JournalFormat, JournalMismatch, JournalImage}
use Rattle.lfs_history.specs.History.{History, IsHistory, IsMounted, GoesBack, GoesForward, history, past_of, future_of}
use Rattle.lfs_history.specs.Opening.{HasHistory, Opens, RefusesOpening, journal_of, others, HasSomeCause}
use Rattle.lfs_history.proofs.MoveLemmas.{TakeBack, Make}
use Rattle.lfs_history.proofs.BookLemmas.{history_is_book}

-- ---- a history is that of its image and its changes

history_is : (h : History) → IsHistory h → h ≡ history h.present h.done h.undone
history_is h is =
    ap (λ (ds : List Disk). record { past = ds; present = h.present; future = h.future; done = h.done; undone = h.undone }) is.past
    ∙ ap (λ (ds : List Disk). record {
      past = past_of (reverse h.done) h.present;
      present = h.present;
      future = ds;
      done = h.done;
      undone = h.undone;
    }) is.future

history_agrees : (h : History) → IsHistory h → HasHistory h.present (journal_of h)
history_agrees h is = record { size = refl; count = refl; back = is.back; on = is.on }

-- in version 2
history_spelled : (h : History) → IsHistory h → SpellsJournal (journal_bytes (journal_of h)) (journal_of h)
history_spelled h is = record { book = history_is_book h is; version = 2; version_is = inl refl; bytes_are = refl }

pub saved_opens : (h : History) → IsHistory h → Opens h.present (journal_bytes (journal_of h)) h
saved_opens h is = record {
  book = journal_of h;
  spelled = history_spelled h is;
  agrees = history_agrees h is;
  is = history_is h is;
  history_is = is;
}

pub one_history : BooksAreReadOnce → (d : Disk) (bytes : List ℕ) (h k : History) → Opens d bytes h → Opens d bytes k → h ≡ k
one_history once d bytes h k first second =
    let same : first.book ≡ second.book = once bytes first.book second.book first.spelled second.spelled in
    first.is ∙ ap (λ (j : Book). history d j.done j.undone) same ∙ sym second.is

-- ---- the images of a history are images

back_disks : TakeBack → (ps : List ChangeSet) (d : Disk) → IsDisk d → GoesBack ps d → AllByRecursion IsDisk (past_of ps d)
back_disks law [] d disk back = tt
back_disks law (p ∷ ps) d disk (growth, agrees, more) =
    let before = (law.disk p d disk growth.patch agrees).disk in
    (before, back_disks law ps (reverted p d) before more)

on_disks : Make → (ps : List ChangeSet) (d : Disk) → IsDisk d → GoesForward ps d → AllByRecursion IsDisk (future_of ps d)
on_disks law [] d disk on = tt
on_disks law (p ∷ ps) d disk (growth, agrees, more) =
    let after = (law.disk p d disk growth.patch agrees).disk in
    (after, on_disks law ps (applied p d) after more)

each_append : (P : Disk → Type 0) (ds es : List Disk) → AllByRecursion P ds → AllByRecursion P es → AllByRecursion P (ds ++ es)
each_append P [] es left right = right
each_append P (d ∷ ds) es (first, left) right = (first, each_append P ds es left right)

each_of : (P : Disk → Type 0) (ds : List Disk) (e : Disk) → AllByRecursion P ds → Contains ds e → P e
each_of P [] e each (k, within, is) = absurd (omega arith)
each_of P (d ∷ ds) e each (zero, within, is) = subst P is each.0
each_of P (d ∷ ds) e each (suc k, within, is) = each_of P ds e each.1 (k, omega arith, is)

-- ---- an image that mounts is not refused

no_cause : MountedHaveNoCause → (d : Disk) → IsDisk d → IsMounted d → HasSomeCause d → ⊥
no_cause law d disk (v, holds, sound) (fault, format, cause) =
    law d (tree v) fault disk (v, holds, sound, λ p. refl) format cause

only_memory : (fault : MountFault) → (IsOfFormat fault → ⊥) → fault ≡ Memory
only_memory Memory not = refl
only_memory _ not = absurd (not tt)

mount_taken : MountedHaveNoCause → (d : Disk) → IsDisk d → IsMounted d → (fault : MountFault) → HasCause d fault → fault ≡ Memory
mount_taken law d disk mounts fault cause = only_memory fault (λ format. no_cause law d disk mounts (fault, format, cause))

pub saved_taken : BooksAreReadOnce → MountedHaveNoCause → TakeBack → Make → (h : History) (fault : OpenFault) → IsHistory h
    → RefusesOpening fault h.present (journal_bytes (journal_of h)) → fault ≡ Mount Memory
saved_taken once law back on h (Mount fault) is cause = ap Mount (mount_taken law h.present is.disk is.mounts fault cause)
saved_taken once law back on h JournalFormat is (mounts, none) = absurd (none (journal_of h) (history_spelled h is))
saved_taken once law back on h JournalMismatch is (mounts, j, spelled, not) =
    let same : j ≡ journal_of h = once (journal_bytes (journal_of h)) j (journal_of h) spelled (history_spelled h is) in
    absurd (not (subst (HasHistory h.present) (sym same) (history_agrees h is)))
saved_taken once law back on h JournalImage is (mounts, j, spelled, agrees, e, there, cause) =
    let same : j ≡ journal_of h = once (journal_bytes (journal_of h)) j (journal_of h) spelled (history_spelled h is) in
    let past = past_of (reverse h.done) h.present in
    let future = future_of h.undone h.present in
    let among : Contains (past ++ future) e = subst (λ (b : Book). Contains (others h.present b) e) same there in
    let disk : IsDisk e = each_of IsDisk (past ++ future) e (each_append IsDisk past future
    (back_disks back (reverse h.done) h.present is.disk is.back) (on_disks on h.undone h.present is.disk is.on)) among in
    let mounted : IsMounted e = each_of IsMounted (past ++ future) e (each_append IsMounted past future
    (subst (AllByRecursion IsMounted) is.past is.past_mounts) (subst (AllByRecursion IsMounted) is.future is.future_mounts)) among in
    absurd (no_cause law e disk mounted cause)
