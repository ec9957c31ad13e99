-- What is told of all images is the text of the history.
use Rattle.std.proofs.Common.{◌≡◌, inl, inr, ℕ, zero, suc, List, [], ◌∷◌, ◌++◌, take, drop, refl, ap, sym, ◌∙◌, subst, arith}
use Rattle.std.specs.Prelude.{reverse, Contains}
use Rattle.std.specs.List.{AllByRecursion, AllZip}
use Rattle.std.proofs.lemmas.List.{reverse-append, length-take-le}
use Rattle.std.proofs.lemmas.List.Elements.{Contains-append_left, Contains-append_right, Contains-append_cases}
use Rattle.lfs_block.specs.Disk.{Disk, IsDisk}
use Rattle.lfs_block.specs.Patch.{ChangeSet}
use Rattle.lfs_fs.specs.Cause.{HasCause}
use Rattle.lfs_fs.specs.Mounted.{MountedValue, IsMountOf}
use Rattle.lfs_fs.specs.Mounts.{MountedHaveNoCause}
use Rattle.lfs_fs.specs.Tree.{tree}
use Rattle.lfs_journal.specs.Book.{book_of}
use Rattle.lfs_history.specs.declared.open_fault.OpenFault.{OpenFault}
use Rattle.lfs_history.specs.declared.open_fault.OpenFault.TheVariants.{Mount, JournalFormat, JournalMismatch, JournalImage}
use Rattle.lfs_history.specs.History.{History, IsMounted, history_at, past_of, future_of}
use Rattle.lfs_history.specs.Opening.{Opens, RefusesOpening, HasSomeCause}
use Rattle.lfs_json.specs.declared.form.Form.{Form}
use Rattle.lfs_session.specs.Opened.{DenotesChanges, RefusesMounts}
use Rattle.lfs_session.proofs.OpeningLemmas.{others_refused}
use Rattle.lfs_step.specs.Between.{AppendsChanges, images_at}
use Rattle.lfs_step.specs.Log.{IsHistoryLog, history_text_from}

-- ---- lists

each_both : (P : Disk → Type 0) (ds es : List Disk) → AllByRecursion P (ds ++ es) → AllByRecursion P ds × AllByRecursion P es
each_both P [] es each = (tt, each)
each_both P (d ∷ ds) es (first, each) = let both = each_both P ds es each in ((first, both.0), both.1)

last_first : (d : Disk) (ds : List Disk) → reverse (d ∷ ds) ≡ reverse ds ++ d ∷ []
last_first d ds = reverse-append (d ∷ []) ds

each_turned : (P : Disk → Type 0) (ds : List Disk) → AllByRecursion P (reverse ds) → AllByRecursion P ds
each_turned P [] each = tt
each_turned P (d ∷ ds) each =
    let both = each_both P (reverse ds) (d ∷ []) (subst (AllByRecursion P) (last_first d ds) each) in
    (both.1.0, each_turned P ds both.0)

among_turned : (ds : List Disk) (e : Disk) → Contains (reverse ds) e → Contains ds e
among_turned [] e there = there
among_turned (d ∷ ds) e there =
    elim (Contains-append_cases (reverse ds) (d ∷ []) e (subst (λ (es : List Disk). Contains es e) (last_first d ds) there)) [
      | inl before ↦ Contains-append_right (d ∷ []) ds e (among_turned ds e before)
      | inr last ↦ Contains-append_left (d ∷ []) ds e last
    ]

each_mounts : (ds : List Disk) (ms : List MountedValue) → AllZip IsMountOf ds ms → AllByRecursion IsMounted ds
each_mounts [] [] are = tt
each_mounts (d ∷ ds) (m ∷ ms) (first, are) = ((first.volume, first.holds, first.sound), each_mounts ds ms are)
each_mounts [] (m ∷ ms) are = absurd are
each_mounts (d ∷ ds) [] are = absurd are

-- ---- all are told

pub logged : (form : Form) (d : Disk) (bytes : List ℕ) (ps : List ChangeSet) (done : ℕ) (old new : List ℕ) → DenotesChanges d bytes ps done → old ≡ []
    → AppendsChanges form d ps done done old new → (h : History) × Opens d bytes h × IsHistoryLog form h new
logged form d bytes ps done old new is empty told =
    let past = past_of (reverse (take done ps)) d in
    let future = future_of (drop done ps) d in
    let both = each_both IsMounted (reverse past) (d ∷ future) (each_mounts (images_at d ps done) told.mounts told.are) in (
      history_at d ps done,
      record {
        book = book_of d.size d.count ps done;
        spelled = is.spelled;
        agrees = is.agrees;
        is = refl;
        history_is = record {
          past = refl;
          future = refl;
          back = is.agrees.back;
          on = is.agrees.on;
          disk = is.disk;
          mounts = both.1.0;
          past_mounts = each_turned IsMounted past both.0;
          future_mounts = both.1.1;
          few = is.spelled.book.few;
        };
      },
      record {
        mounts = told.mounts;
        are = told.are;
        text_is = told.text ∙ ap (λ (xs : List ℕ). xs ++ history_text_from form 1 done (images_at d ps done) told.mounts) empty
            ∙ ap (λ (n : ℕ). history_text_from form 1 n (images_at d ps done) told.mounts) (sym (length-take-le done ps is.within));
      },
    )

-- ---- an image isn't mounted

no_cause : MountedHaveNoCause → (d : Disk) → IsDisk d → IsMounted d → HasSomeCause d → ⊥
no_cause law d disk (v, holds, sound) (fault, format, cause) = law d (tree v) fault disk (v, holds, sound, λ p. refl) format cause

-- an image that has a cause isn't the first, where that mounts
not_first : MountedHaveNoCause → (d e : Disk) (es : List Disk) → IsDisk d → IsMounted d → HasSomeCause e → Contains (d ∷ es) e → Contains es e
not_first law d e es disk mounts cause (zero, within, is) = absurd (no_cause law d disk mounts (subst HasSomeCause (sym is) cause))
not_first law d e es disk mounts cause (suc k, within, is) = (k, omega arith, is)

pub images_refused : MountedHaveNoCause → (fault : OpenFault) (d : Disk) (bytes : List ℕ) (ps : List ChangeSet) (done : ℕ) → IsMounted d
    → DenotesChanges d bytes ps done → RefusesMounts fault (images_at d ps done) → RefusesOpening fault d bytes
images_refused law (Mount fault) d bytes ps done mounts is h = subst (HasCause d) (sym h) tt
images_refused law JournalImage d bytes ps done mounts is (e, there, cause) =
    let past = past_of (reverse (take done ps)) d in
    let future = future_of (drop done ps) d in
    let among : Contains (past ++ future) e = elim (Contains-append_cases (reverse past) (d ∷ future) e there) [
      | inl before ↦ Contains-append_left past future e (among_turned past e before)
      | inr behind ↦ Contains-append_right past future e (not_first law d e future is.disk mounts cause behind)
    ] in
    others_refused JournalImage d bytes ps done mounts is (e, among, cause)
images_refused law JournalFormat d bytes ps done mounts is h = absurd h
images_refused law JournalMismatch d bytes ps done mounts is h = absurd h
