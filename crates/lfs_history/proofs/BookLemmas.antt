-- The changes of a history are a journal.
use Rattle.std.proofs.Common.{◌≡◌, ℕ, max, List, [], ◌∷◌, ◌++◌, refl, sym, subst}
use Rattle.std.specs.Prelude.{reverse}
use Rattle.std.specs.List.{AllByRecursion}
use Rattle.std.proofs.lemmas.List.{reverse-append, reverse-reverse}
use Rattle.lfs_block.specs.Change.{Change}
use Rattle.lfs_block.specs.Disk.{Disk, put, resized}
use Rattle.lfs_block.specs.Patch.{ChangeSet, applied, flipped, reverted, put_all}
use Rattle.lfs_journal.specs.Book.{IsBook, IsBookOf, IsPatchOf}
use Rattle.lfs_history.specs.History.{History, IsHistory, IsHistoryAt, GoesBack, GoesForward}
use Rattle.lfs_history.specs.Opening.{journal_of}

-- ---- lists

each_append : (P : ChangeSet → Type 0) (ps qs : List ChangeSet) → AllByRecursion P ps → AllByRecursion P qs
    → AllByRecursion P (ps ++ qs)
each_append P [] qs left right = right
each_append P (p ∷ ps) qs (first, left) right = (first, each_append P ps qs left right)

each_reversed : (P : ChangeSet → Type 0) (ps : List ChangeSet) → AllByRecursion P ps → AllByRecursion P (reverse ps)
each_reversed P [] each = tt
each_reversed P (p ∷ ps) (first, each) =
    subst (AllByRecursion P) (sym (reverse-append (p ∷ []) ps)) (each_append P (reverse ps) (p ∷ []) (each_reversed P ps each) (first, tt))

each_turned : (P : ChangeSet → Type 0) (ps : List ChangeSet) → AllByRecursion P (reverse ps) → AllByRecursion P ps
each_turned P ps each = subst (AllByRecursion P) (reverse-reverse ps) (each_reversed P (reverse ps) each)

-- ---- changes keep the size

size_kept : (cs : List Change) (d : Disk) → (put_all cs d).size ≡ d.size
size_kept [] d = refl
size_kept (c ∷ cs) d = size_kept cs (put c.number c.new d)

pub applied_size : (p : ChangeSet) (d : Disk) → (applied p d).size ≡ d.size
applied_size p d = size_kept p.changes (resized (max p.before p.after) d)

pub reverted_size : (p : ChangeSet) (d : Disk) → (reverted p d).size ≡ d.size
reverted_size p d = applied_size (flipped p) d

-- ---- a change that agrees with an image is one of blocks of its size

same_size : (n m : ℕ) (ps : List ChangeSet) → n ≡ m → AllByRecursion (IsPatchOf n) ps → AllByRecursion (IsPatchOf m) ps
same_size n m ps is each = subst (λ (k : ℕ). AllByRecursion (IsPatchOf k) ps) is each

pub back_patches : (ps : List ChangeSet) (d : Disk) → GoesBack ps d → AllByRecursion (IsPatchOf d.size) ps
back_patches [] d back = tt
back_patches (p ∷ ps) d (growth, agrees, more) =
    ((growth, agrees.size), same_size (reverted p d).size d.size ps (reverted_size p d) (back_patches ps (reverted p d) more))

pub on_patches : (ps : List ChangeSet) (d : Disk) → GoesForward ps d → AllByRecursion (IsPatchOf d.size) ps
on_patches [] d on = tt
on_patches (p ∷ ps) d (growth, agrees, more) =
    ((growth, agrees.size), same_size (applied p d).size d.size ps (applied_size p d) (on_patches ps (applied p d) more))

-- ---- a history is a journal

pub history_is_book : (h : History) → IsHistory h → IsBook (journal_of h)
history_is_book h is =
    let P = IsPatchOf h.present.size in
    record {
      geometry = is.disk.geometry;
      each = each_append P h.done h.undone (each_turned P h.done (back_patches (reverse h.done) h.present is.back))
          (on_patches h.undone h.present is.on);
      few = is.few;
    }

pub session_is_book : (d : Disk) (changes : List ChangeSet) (done : ℕ) → IsHistoryAt d changes done
    → IsBookOf d.size d.count changes done
session_is_book d changes done h = record { within = h.within; book = history_is_book _ h.history }
