-- A book that is read is spelled so, and one that is spelled so is read.
use Rattle.std.proofs.Common.{◌≡◌, inl, inr, ℕ, ◌+◌, ◌≤◌, true, cond, eqb, List, [], ◌++◌, length, take}
use Rattle.std.proofs.Common.{drop, Some, None, Result, Ok, Err, refl, sym, ap, subst, ◌∙◌, arith}
use Rattle.std.specs.Prelude.{IfOk, IfErr}
use Rattle.std.specs.List.{flat_map, AllByRecursion}
use Rattle.std.proofs.lemmas.Bool.{eqb-true}
use Rattle.std.proofs.lemmas.List.{append-nil, nil_from_length, take_at, drop_at, take-append-drop, length-append, length-take, length-drop}
use Rattle.std.proofs.lemmas.Option.{cond_some, same_Some}
use Rattle.lfs_block.specs.Bytes.{IsBytes}
use Rattle.lfs_block.specs.Geometry.{IsGeometry}
use Rattle.lfs_block.specs.Patch.{ChangeSet}
use Rattle.lfs_journal.specs.Book.{Book, book_of, patch_bytes_in, bytes_in, IsPatchOf, KeepsAt, IsVersionOf, IsBook, SpellsJournal}
use Rattle.lfs_journal.specs.Reading.{◌>>=◌, patches_at, Head, head_at, read_book}
use Rattle.lfs_journal.specs.declared.journal_fault.JournalFault.{JournalFault}
use Rattle.lfs_journal.specs.declared.journal_fault.JournalFault.TheVariants.{JournalFormat, Memory}
use Rattle.lfs_journal.specs.Faults.{Gives, IsNoJournal}
use Rattle.lfs_journal.specs.Laws.{BooksAreReadOnce}
use Rattle.lfs_journal.proofs.Fields.{bind_some, bind_is, Takes-then}
use Rattle.lfs_journal.proofs.Heads.{IsVersion, head_bytes, head_with, head_takes, head_again}
use Rattle.lfs_journal.proofs.Patches.{IsPatchIn, patches_take, patches_again, each_of, each_kept, each_as}

-- ---- the whole

-- a book as it is spelled, by what stands before its changes and the list of them
abbrev pub spelled : Head → List ChangeSet → List ℕ
spelled h ps = head_bytes h ++ flat_map (patch_bytes_in h.version) ps

-- what stands before the changes of a book
abbrev pub head_of : ℕ → Book → Head
head_of version j = head_with version j.size j.count (length j.done) (length j.undone)

pub bytes_in-spelled : (version : ℕ) (j : Book) → bytes_in version j ≡ spelled (head_of version j) (j.done ++ j.undone)
unfolding bytes_in
bytes_in-spelled version j = refl

-- one list of changes, of which so many are done
pub book_of-spelled : (version size count done undone : ℕ) (ps : List ChangeSet) → length ps ≡ done + undone
    → bytes_in version (book_of size count ps done) ≡ spelled (head_with version size count done undone) ps
book_of-spelled version size count done undone ps len =
    let first : length (take done ps) ≡ done = omega (arith, length-take done ps, len) in
    let second : length (drop done ps) ≡ undone = omega (arith, length-drop done ps, len) in
    bytes_in-spelled version (book_of size count ps done)
    ∙ ap (λ (k : ℕ). spelled (head_with version size count k (length (drop done ps))) (take done ps ++ drop done ps)) first
    ∙ ap (λ (k : ℕ). spelled (head_with version size count done k) (take done ps ++ drop done ps)) second
    ∙ ap (spelled (head_with version size count done undone)) (take-append-drop done ps)

pub book_of-is : (size count done undone : ℕ) (ps : List ChangeSet) → IsGeometry size count → AllByRecursion (IsPatchOf size) ps
    → length ps ≡ done + undone → done + undone ≤ 1000
    → IsBook (book_of size count ps done)
book_of-is size count done undone ps geometry each len few = record {
  geometry = geometry;
  each = subst (AllByRecursion (IsPatchOf size)) (sym (take-append-drop done ps)) each;
  few = omega (arith, ap length (take-append-drop done ps), len, few);
}

-- the version that was read is one of the book
version_of : (h : Head) (ps : List ChangeSet) → IsVersion h.version → AllByRecursion (IsPatchIn h) ps
    → IsVersionOf h.version (book_of h.size h.count ps h.done)
version_of h ps (inl first) each =
    inr (first, subst (AllByRecursion (KeepsAt h.count)) (sym (take-append-drop h.done ps)) (each_kept h ps first each))
version_of h ps (inr second) each = inl second

-- a book, each of whose parts is read
book_read : (bytes : List ℕ) (a : Head × List ℕ) (b : List ChangeSet × List ℕ) (j : Book) → IsBytes bytes → head_at bytes ≡ Some a
    → patches_at a.0 (a.0.done + a.0.undone) a.1 ≡ Some b
    → cond (eqb (length b.1) 0) (Some (book_of a.0.size a.0.count b.0 a.0.done)) None ≡ Some j → SpellsJournal bytes j
book_read bytes a b j h head_is patches_are is =
    let head : Head = a.0 in
    let ps : List ChangeSet = b.0 in
    let g = cond_some (eqb (length b.1) 0) (book_of head.size head.count ps head.done) j is in
    let first = head_takes bytes a h head_is in
    let second = patches_take head (head.done + head.undone) a.1 b first.takes.rest_bytes first.is.geometry patches_are in
    let nothing : b.1 ≡ [] = nil_from_length b.1 (eqb-true _ _ g.0) in
    let both : bytes ≡ spelled head ps ++ b.1 =
    (Takes-then bytes (head_bytes head) a.1 (flat_map (patch_bytes_in head.version) ps) b.1 first.takes second.takes).parts in
    let complete : bytes ≡ spelled head ps = both ∙ ap (λ (x : List ℕ). spelled head ps ++ x) nothing ∙ append-nil (spelled head ps) in
    let all : SpellsJournal bytes (book_of head.size head.count ps head.done) = record {
      book = book_of-is head.size head.count head.done head.undone ps first.is.geometry (each_of head ps second.each) second.len
          first.is.few;
      version = head.version;
      version_is = version_of head ps first.is.version second.each;
      bytes_are = book_of-spelled head.version head.size head.count head.done head.undone ps second.len ∙ sym complete;
    } in
    subst (SpellsJournal bytes) g.1 all

pub book_takes : (bytes : List ℕ) (j : Book) → IsBytes bytes → read_book bytes ≡ Some j → SpellsJournal bytes j
unfolding read_book
book_takes bytes j h e =
    let a = bind_some (head_at bytes) (λ head. patches_at head.0 (head.0.done + head.0.undone) head.1 >>= λ patches.
    cond (eqb (length patches.1) 0) (Some (book_of head.0.size head.0.count patches.0 head.0.done)) None) j e in
    let b = bind_some (patches_at a.0.0 (a.0.0.done + a.0.0.undone) a.0.1)
    (λ patches. cond (eqb (length patches.1) 0) (Some (book_of a.0.0.size a.0.0.count patches.0 a.0.0.done)) None) j a.2 in
    book_read bytes a.0 b.0 j h a.1 b.1 b.2

-- a book, each of whose parts is found, and nothing behind them
pub book_found : (bytes : List ℕ) (head : Head) (first : List ℕ) (ps : List ChangeSet) (second : List ℕ) → head_at bytes ≡ Some (head, first)
    → patches_at head (head.done + head.undone) first ≡ Some (ps, second) → eqb (length second) 0 ≡ true
    → read_book bytes ≡ Some (book_of head.size head.count ps head.done)
unfolding read_book
book_found bytes head first ps second head_is patches_are nothing = rw (head_is, patches_are, nothing) refl

-- a version that is spelled, with the changes that it spells
record IsSpelled (version : ℕ) (j : Book) : Type 0 where
  pub version_is : IsVersion version
  pub each : AllByRecursion (IsPatchIn (head_of version j)) (j.done ++ j.undone)

is_spelled : (version : ℕ) (j : Book) → IsBook j → IsVersionOf version j → IsSpelled version j
is_spelled version j is (inl second) = record {
  version_is = inr second;
  each = each_as (head_of version j) (j.done ++ j.undone) is.each (λ first. absurd (omega (arith, first, second)));
}
is_spelled version j is (inr (first, kept)) = record {
  version_is = inl first;
  each = each_as (head_of version j) (j.done ++ j.undone) is.each (λ _. kept);
}

again_in : (version : ℕ) (j : Book) → IsBook j → IsVersionOf version j → read_book (bytes_in version j) ≡ Some j
unfolding read_book
again_in version j is of =
    let ps : List ChangeSet = j.done ++ j.undone in
    let many : ℕ = length j.done + length j.undone in
    let len : length ps ≡ many = length-append j.done j.undone in
    let head : Head = head_of version j in
    let few : many ≤ 1000 = omega (arith, len, is.few) in
    let spelt = is_spelled version j is of in
    let text : List ℕ = flat_map (patch_bytes_in version) ps in
    let first : head_at (head_bytes head ++ text) ≡ Some (head, text) =
    head_again head text (record { version = spelt.version_is; geometry = is.geometry; few = few }) in
    let second : patches_at head many text ≡ Some (ps, []) =
    ap (patches_at head many) (sym (append-nil text))
    ∙ ap (λ (k : ℕ). patches_at head k (text ++ [])) (sym len)
    ∙ patches_again head ps [] spelt.each in
    let done : take (length j.done) ps ≡ j.done = take_at j.done j.undone (length j.done) refl in
    let undone : drop (length j.done) ps ≡ j.undone = drop_at j.done j.undone (length j.done) refl in
    let back : Some (book_of j.size j.count ps (length j.done)) ≡ Some j =
    ap (λ (x : List ChangeSet). Some (record { size = j.size; count = j.count; done = x; undone = drop (length j.done) ps })) done
    ∙ ap (λ (x : List ChangeSet). Some (record { size = j.size; count = j.count; done = j.done; undone = x })) undone in
    ap read_book (bytes_in-spelled version j)
    ∙ bind_is (head_at (head_bytes head ++ text)) (λ head. patches_at head.0 (head.0.done + head.0.undone) head.1 >>= λ patches.
    cond (eqb (length patches.1) 0) (Some (book_of head.0.size head.0.count patches.0 head.0.done)) None) (head, text)
    (Some j) first
    (bind_is (patches_at head many text)
    (λ patches. cond (eqb (length patches.1) 0) (Some (book_of j.size j.count patches.0 (length j.done))) None)
    (ps, []) (Some j) second back)

pub book_again : (bytes : List ℕ) (j : Book) → SpellsJournal bytes j → read_book bytes ≡ Some j
book_again bytes j spells = ap read_book (sym spells.bytes_are) ∙ again_in spells.version j spells.book spells.version_is

pub books_once : BooksAreReadOnce
books_once bytes i j first second = same_Some i j (sym (book_again bytes i first) ∙ book_again bytes j second)

-- ---- what a reader found

pub is_read : (bytes : List ℕ) (r : Result Book JournalFault) → IsBytes bytes → Gives (λ j. j) r (read_book bytes)
    → IfOk r (λ j. SpellsJournal bytes j)
is_read bytes (Ok j) h given = book_takes bytes j h given
is_read bytes (Err fault) h given = tt

pub is_refused : (bytes : List ℕ) (r : Result Book JournalFault) → Gives (λ j. j) r (read_book bytes)
    → IfErr r (λ fault. IsNoJournal fault bytes)
is_refused bytes (Ok j) given = tt
is_refused bytes (Err JournalFormat) given =
    λ j spells. let e : Some j ≡ None = sym (book_again bytes j spells) ∙ given in absurd cc
is_refused bytes (Err Memory) given = tt
