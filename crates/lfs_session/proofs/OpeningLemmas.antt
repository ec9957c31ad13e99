-- How a journal is opened on an image, change by change.
use Rattle.std.proofs.Common.{◌≡◌, ◌≢◌, ◌↔◌, ℕ, ◌≤◌, Bool, true, false, List, [], ◌∷◌, ◌++◌, Result, Err, length, take, drop, refl, ap, sym, ◌∙◌, subst, arith}
use Rattle.std.specs.Prelude.{reverse, Contains, IfErr, IsTrue}
use Rattle.std.specs.List.{AllByRecursion}
use Rattle.std.proofs.lemmas.Bool.{false≢true}
use Rattle.std.proofs.lemmas.List.{take-append-drop}
use Rattle.std.proofs.lemmas.List.Elements.{Contains-append_left, Contains-append_right}
use Rattle.lfs_block.specs.Disk.{Disk, IsDisk}
use Rattle.lfs_block.specs.Medium.{Medium}
use Rattle.lfs_block.specs.Patch.{ChangeSet, IsGrowth, AgreesNew, AgreesOld, applied, reverted}
use Rattle.lfs_block.specs.declared.mount_fault.MountFault.{MountFault}
use Rattle.lfs_fs.specs.Volume.{Volume}
use Rattle.lfs_fs.specs.Cause.{HasCause}
use Rattle.lfs_fs.specs.Mounted.{IsMountOf, IsOutlineOf, MountedValue}
use Rattle.lfs_journal.specs.Book.{Book, IsBookOf, IsPatchOf, SpellsJournal, book_of}
use Rattle.lfs_journal.specs.Faults.{IsNoJournal}
use Rattle.lfs_journal.specs.declared.journal_fault.JournalFault.{JournalFault}
use Rattle.lfs_journal.specs.declared.journal_fault.JournalFault.TheVariants.{JournalFormat as Unspelled, Memory as Unread}
use Rattle.lfs_history.specs.Faults.{opened_fault}
use Rattle.lfs_history.specs.declared.open_fault.OpenFault.{OpenFault}
use Rattle.lfs_history.specs.declared.open_fault.OpenFault.TheVariants.{Mount, JournalFormat, JournalMismatch, JournalImage}
use Rattle.lfs_history.specs.History.{IsMounted, GoesBack, GoesForward, past_of, future_of}
use Rattle.lfs_history.specs.Opening.{RefusesOpening, others, HasHistory}
use Rattle.lfs_session.specs.Known.{HasRoom, HaveSize}
use Rattle.lfs_session.specs.Opened.{RefusesMount, RefusesMounts, DenotesChanges, OpensParts}
use Rattle.lfs_history.proofs.MoveLemmas.{latest}

-- ---- lists

-- what holds of each holds of the last, and of those before it
pub each_last : (P : ChangeSet → Type 0) (ps : List ChangeSet) (p : ChangeSet) → AllByRecursion P (ps ++ p ∷ [])
    → AllByRecursion P ps × P p
each_last P [] p each = (tt, each.0)
each_last P (q ∷ ps) p (first, each) = let more = each_last P ps p each in ((first, more.0), more.1)

pub last_of : (P : ChangeSet → Type 0) (qs ps : List ChangeSet) (p : ChangeSet) → qs ≡ ps ++ p ∷ [] → AllByRecursion P qs → P p
last_of P qs ps p is each = (each_last P ps p (subst (AllByRecursion P) is each)).1

patches_of : (size : ℕ) (ps : List ChangeSet) → AllByRecursion (IsPatchOf size) ps → AllByRecursion IsGrowth ps
patches_of size [] each = tt
patches_of size (p ∷ ps) (first, each) = (first.0, patches_of size ps each)

sizes_of : (size : ℕ) (ps : List ChangeSet) → AllByRecursion (IsPatchOf size) ps → HaveSize size ps
sizes_of size [] each = tt
sizes_of size (p ∷ ps) (first, each) = (first.1, sizes_of size ps each)

book_each : (size count : ℕ) (ps : List ChangeSet) (done : ℕ) → IsBookOf size count ps done → AllByRecursion (IsPatchOf size) ps
book_each size count ps done is = subst (AllByRecursion (IsPatchOf size)) (take-append-drop done ps) is.book.each

-- each change of a journal is a patch
pub book_patches : (size count : ℕ) (ps : List ChangeSet) (done : ℕ) → IsBookOf size count ps done → AllByRecursion IsGrowth ps
book_patches size count ps done is = patches_of size ps (book_each size count ps done is)

-- of blocks of its size
pub book_sizes : (size count : ℕ) (ps : List ChangeSet) (done : ℕ) → IsBookOf size count ps done → HaveSize size ps
book_sizes size count ps done is = sizes_of size ps (book_each size count ps done is)

-- ---- agreement

pub back_agrees : (qs ps : List ChangeSet) (p : ChangeSet) (d : Disk) (t : Bool) → qs ≡ ps ++ p ∷ [] → IsGrowth p → AgreesNew p d
    → IsTrue t ↔ GoesBack (reverse ps) (reverted p d) → IsTrue t ↔ GoesBack (reverse qs) d
back_agrees qs ps p d t is growth agrees both =
    subst (λ (xs : List ChangeSet). IsTrue t ↔ GoesBack xs d) (sym (latest ps qs p is))
    ((λ yes. (growth, agrees, both.0 yes)), (λ back. both.1 back.2))

pub back_disagrees : (qs ps : List ChangeSet) (p : ChangeSet) (d : Disk) → qs ≡ ps ++ p ∷ [] → (AgreesNew p d → ⊥)
    → IsTrue false ↔ GoesBack (reverse qs) d
back_disagrees qs ps p d is not =
    subst (λ (xs : List ChangeSet). IsTrue false ↔ GoesBack xs d) (sym (latest ps qs p is))
    ((λ yes. absurd (false≢true yes)), (λ back. absurd (not back.1)))

-- no change is left
pub none_back : (qs : List ChangeSet) (d : Disk) → length qs ≡ 0 → IsTrue true ↔ GoesBack (reverse qs) d
none_back [] d none = ((λ _. tt), (λ _. refl))
none_back (q ∷ qs) d none = absurd (omega (arith, none))

pub none_on : (qs : List ChangeSet) (d : Disk) → length qs ≡ 0 → IsTrue true ↔ GoesForward qs d
none_on [] d none = ((λ _. tt), (λ _. refl))
none_on (q ∷ qs) d none = absurd (omega (arith, none))

pub on_agrees : (qs ps : List ChangeSet) (p : ChangeSet) (d : Disk) (t : Bool) → qs ≡ p ∷ ps → IsGrowth p → AgreesOld p d
    → IsTrue t ↔ GoesForward ps (applied p d) → IsTrue t ↔ GoesForward qs d
on_agrees qs ps p d t is growth agrees both =
    subst (λ (xs : List ChangeSet). IsTrue t ↔ GoesForward xs d) (sym is) ((λ yes. (growth, agrees, both.0 yes)), (λ on. both.1 on.2))

pub on_disagrees : (qs ps : List ChangeSet) (p : ChangeSet) (d : Disk) → qs ≡ p ∷ ps → (AgreesOld p d → ⊥) → IsTrue false ↔ GoesForward qs d
on_disagrees qs ps p d is not =
    subst (λ (xs : List ChangeSet). IsTrue false ↔ GoesForward xs d) (sym is) ((λ yes. absurd (false≢true yes)), (λ on. absurd (not on.1)))

-- ---- images that mount

pub none_before : (qs : List ChangeSet) (d : Disk) → length qs ≡ 0 → AllByRecursion IsMounted (past_of (reverse qs) d)
none_before [] d none = tt
none_before (q ∷ qs) d none = absurd (omega (arith, none))

pub none_behind : (qs : List ChangeSet) (d : Disk) → length qs ≡ 0 → AllByRecursion IsMounted (future_of qs d)
none_behind [] d none = tt
none_behind (q ∷ qs) d none = absurd (omega (arith, none))

pub past_first : (qs ps : List ChangeSet) (p : ChangeSet) (d : Disk) → qs ≡ ps ++ p ∷ []
    → past_of (reverse qs) d ≡ reverted p d ∷ past_of (reverse ps) (reverted p d)
past_first qs ps p d is = ap (λ (xs : List ChangeSet). past_of xs d) (latest ps qs p is)

pub first_refused : (fault : OpenFault) (e : Disk) (es : List Disk) → RefusesMount fault e → RefusesMounts fault (e ∷ es)
first_refused (Mount fault) e es h = h
first_refused JournalImage e es h = (e, (0, omega arith, refl), h)
first_refused JournalFormat e es h = absurd h
first_refused JournalMismatch e es h = absurd h

pub past_first_refused : (fault : OpenFault) (qs ps : List ChangeSet) (p : ChangeSet) (d : Disk) → qs ≡ ps ++ p ∷ []
    → RefusesMount fault (reverted p d) → RefusesMounts fault (past_of (reverse qs) d)
past_first_refused fault qs ps p d is h =
    subst (RefusesMounts fault) (sym (past_first qs ps p d is)) (first_refused fault (reverted p d) (past_of (reverse ps) (reverted p d)) h)

pub future_first_refused : (fault : OpenFault) (qs ps : List ChangeSet) (p : ChangeSet) (d : Disk) → qs ≡ p ∷ ps
    → RefusesMount fault (applied p d) → RefusesMounts fault (future_of qs d)
future_first_refused fault qs ps p d is h =
    subst (λ (xs : List ChangeSet). RefusesMounts fault (future_of xs d)) (sym is)
    (first_refused fault (applied p d) (future_of ps (applied p d)) h)

pub later_refused : (fault : OpenFault) (e : Disk) (es : List Disk) → RefusesMounts fault es → RefusesMounts fault (e ∷ es)
later_refused (Mount fault) e es h = h
later_refused JournalImage e es (x, there, cause) = (x, Contains-append_right (e ∷ []) es x there, cause)
later_refused JournalFormat e es h = absurd h
later_refused JournalMismatch e es h = absurd h

pub past_mounted : (qs ps : List ChangeSet) (p : ChangeSet) (d e : Disk) → qs ≡ ps ++ p ∷ [] → e ≡ reverted p d → IsMounted (reverted p d)
    → AllByRecursion IsMounted (past_of (reverse ps) e) → AllByRecursion IsMounted (past_of (reverse qs) d)
past_mounted qs ps p d e is to first more =
    subst (AllByRecursion IsMounted) (sym (past_first qs ps p d is))
    (first, subst (λ (x : Disk). AllByRecursion IsMounted (past_of (reverse ps) x)) to more)

pub future_mounted : (qs ps : List ChangeSet) (p : ChangeSet) (d e : Disk) → qs ≡ p ∷ ps → e ≡ applied p d → IsMounted (applied p d)
    → AllByRecursion IsMounted (future_of ps e) → AllByRecursion IsMounted (future_of qs d)
future_mounted qs ps p d e is to first more =
    subst (λ (xs : List ChangeSet). AllByRecursion IsMounted (future_of xs d)) (sym is)
    (first, subst (λ (x : Disk). AllByRecursion IsMounted (future_of ps x)) to more)

pub past_later_refused : (fault : OpenFault) (qs ps : List ChangeSet) (p : ChangeSet) (d e : Disk) → qs ≡ ps ++ p ∷ [] → e ≡ reverted p d
    → RefusesMounts fault (past_of (reverse ps) e) → RefusesMounts fault (past_of (reverse qs) d)
past_later_refused fault qs ps p d e is to h =
    subst (RefusesMounts fault) (sym (past_first qs ps p d is))
    (later_refused fault (reverted p d) (past_of (reverse ps) (reverted p d))
    (subst (λ (x : Disk). RefusesMounts fault (past_of (reverse ps) x)) to h))

pub future_later_refused : (fault : OpenFault) (qs ps : List ChangeSet) (p : ChangeSet) (d e : Disk) → qs ≡ p ∷ ps → e ≡ applied p d
    → RefusesMounts fault (future_of ps e) → RefusesMounts fault (future_of qs d)
future_later_refused fault qs ps p d e is to h =
    subst (λ (xs : List ChangeSet). RefusesMounts fault (future_of xs d)) (sym is)
    (later_refused fault (applied p d) (future_of ps (applied p d)) (subst (λ (x : Disk). RefusesMounts fault (future_of ps x)) to h))

-- ---- what was read

pub agreed : (d : Disk) (bytes : List ℕ) (j : Book) (ps : List ChangeSet) (done : ℕ) → IsDisk d → SpellsJournal bytes j
    → book_of j.size j.count ps done ≡ j → done ≤ length ps → j.size ≡ d.size → j.count ≡ d.count
    → GoesBack (reverse (take done ps)) d → GoesForward (drop done ps) d → DenotesChanges d bytes ps done
agreed d bytes j ps done disk spelled parts within size count back on =
    let is : book_of d.size d.count ps done ≡ j = ap (λ (n : ℕ). book_of n d.count ps done) (sym size)
    ∙ ap (λ (n : ℕ). book_of j.size n ps done) (sym count) ∙ parts in
    record {
      disk = disk;
      within = within;
      spelled = subst (SpellsJournal bytes) (sym is) spelled;
      agrees = record { size = refl; count = refl; back = back; on = on };
    }

-- changes that don't agree are no history that a journal of them denotes
pub not_agreed : (d e : Disk) (j : Book) (ps qs : List ChangeSet) (done : ℕ) (t : Bool) → e ≡ d → book_of j.size j.count ps done ≡ j → qs ≡ ps
    → IsTrue t ↔ (GoesBack (reverse (take done qs)) e × GoesForward (drop done qs) e) → t ≡ false → HasHistory d j → ⊥
not_agreed d e j ps qs done t to parts same both fails has =
    let made : take done qs ≡ j.done = ap (λ (xs : List ChangeSet). take done xs) same ∙ ap (λ (b : Book). b.done) parts in
    let undone : drop done qs ≡ j.undone = ap (λ (xs : List ChangeSet). drop done xs) same ∙ ap (λ (b : Book). b.undone) parts in
    let back = subst (λ (xs : List ChangeSet). GoesBack (reverse xs) d) (sym made) has.back in
    let on = subst (λ (xs : List ChangeSet). GoesForward xs d) (sym undone) has.on in
    let goes = subst (λ (x : Disk). GoesBack (reverse (take done qs)) x × GoesForward (drop done qs) x) (sym to) (back, on) in
    false≢true (sym fails ∙ both.1 goes)

-- among more images
pub refused_among : (fault : OpenFault) (es fs : List Disk) → ((e : Disk) → Contains es e → Contains fs e) → RefusesMounts fault es
    → RefusesMounts fault fs
refused_among (Mount fault) es fs among h = h
refused_among JournalImage es fs among (e, there, cause) = (e, among e there, cause)
refused_among JournalFormat es fs among h = absurd h
refused_among JournalMismatch es fs among h = absurd h

pub refused_left : (fault : OpenFault) (es fs : List Disk) → RefusesMounts fault es → RefusesMounts fault (es ++ fs)
refused_left fault es fs h = refused_among fault es (es ++ fs) (λ e there. Contains-append_left es fs e there) h

pub refused_right : (fault : OpenFault) (es fs : List Disk) → RefusesMounts fault fs → RefusesMounts fault (es ++ fs)
refused_right fault es fs h = refused_among fault fs (es ++ fs) (λ e there. Contains-append_right es fs e there) h

pub others_refused : (fault : OpenFault) (d : Disk) (bytes : List ℕ) (ps : List ChangeSet) (done : ℕ)
    → IsMounted d → DenotesChanges d bytes ps done → RefusesMounts fault (others d (book_of d.size d.count ps done))
    → RefusesOpening fault d bytes
others_refused (Mount fault) d bytes ps done mounts is h = subst (HasCause d) (sym h) tt
others_refused JournalImage d bytes ps done mounts is (e, there, cause) =
    (mounts, book_of d.size d.count ps done, is.spelled, is.agrees, e, there, cause)
others_refused JournalFormat d bytes ps done mounts is h = absurd h
others_refused JournalMismatch d bytes ps done mounts is h = absurd h

-- an image with an outline mounts
pub known_mounts : (d : Disk) (o : Volume) → IsOutlineOf d o → IsMounted d
known_mounts d o is = (is.volume, is.holds, is.sound)

-- what was found of an image and of the changes that were read
pub record IsFound (d : Disk) (bytes : List ℕ) (outline : Volume) (ps : List ChangeSet) (done : ℕ) : Type 0 where
  pub known : IsOutlineOf d outline
  pub agreed : DenotesChanges d bytes ps done
  pub past : AllByRecursion IsMounted (past_of (reverse (take done ps)) d)
  pub future : AllByRecursion IsMounted (future_of (drop done ps) d)

pub parts_opened : (m : Medium) (bytes : List ℕ) (outline : Volume) (ps : List ChangeSet) (done : ℕ)
    → IsFound m.disk bytes outline ps done → HasRoom m.room ps → OpensParts m bytes outline ps done
parts_opened m bytes outline ps done is room = record {
  spelled = is.agreed.spelled;
  agrees = is.agreed.agrees;
  session = record {
    at = record {
      within = is.agreed.within;
      history = record {
        past = refl;
        future = refl;
        back = is.agreed.agrees.back;
        on = is.agreed.agrees.on;
        disk = is.agreed.disk;
        mounts = known_mounts m.disk outline is.known;
        past_mounts = is.past;
        future_mounts = is.future;
        few = is.agreed.spelled.book.few;
      };
    };
    known = tt;
    room = room;
  };
  outline = is.known;
}

-- ---- exits

-- what is refused with a fault that is known
pub refused_as : {T : Type 0} (r : Result T OpenFault) (Q : OpenFault → Type 0) (known made : OpenFault) → r ≡ Err made → made ≡ known → Q known
    → IfErr r Q
refused_as {T} r Q known made is same holds = subst (λ (s : Result T OpenFault). IfErr s Q) (sym is) (subst Q (sym same) holds)

-- neither an image that doesn't mount nor bytes that are no journal are told as another image
pub mount_is_other : (fault : MountFault) → Mount fault ≢ JournalImage
mount_is_other fault is = cc

pub journal_is_other : (fault : JournalFault) → opened_fault fault ≢ JournalImage
journal_is_other Unspelled is = cc
journal_is_other Unread is = cc

-- an image that was mounted mounts
pub mount_mounts : (d : Disk) (m : MountedValue) → IsMountOf d m → IsMounted d
mount_mounts d m is = (is.volume, is.holds, is.sound)

-- its outline is that
pub mount_outlined : (d : Disk) (m : MountedValue) → IsMountOf d m → IsOutlineOf d m.outline
mount_outlined d m is = record { volume = is.volume; holds = is.holds; sound = is.sound; outline = is.outline }

-- why bytes are no journal of an image that mounts
pub no_journal : (fault : JournalFault) (d : Disk) (bytes : List ℕ) → IsMounted d → IsNoJournal fault bytes
    → RefusesOpening (opened_fault fault) d bytes
no_journal Unspelled d bytes mounts is = (mounts, is)
no_journal Unread d bytes mounts is = tt
