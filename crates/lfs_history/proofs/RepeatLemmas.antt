-- Moves that are made so many times.
use Rattle.std.proofs.Common.{◌≡◌, ℕ, zero, suc, ◌+◌, List, [], ◌∷◌, ◌++◌, length, refl, ap, sym, ◌∙◌, subst, arith}
use Rattle.lfs_block.specs.Disk.{Disk}
use Rattle.lfs_block.specs.Patch.{ChangeSet}
use Rattle.lfs_history.specs.History.{History}
use Rattle.lfs_history.specs.Moves.{Undoes, Redoes, Repeats}
use Rattle.lfs_history.specs.Laws.{RedoIsExact}

-- what each of them keeps, all of them keep
pub repeats_keep : (P : History → Type 0) (move : History → History → Type 0) → ((old new : History) → P old → move old new → P new)
    → (n : ℕ) (old new : History) → P old → Repeats move n old new → P new
repeats_keep P move keeps zero old new is same = subst P (sym same) is
repeats_keep P move keeps (suc n) old new is (mid, first, rest) = repeats_keep P move keeps n mid new (keeps old mid is first) rest

-- ---- one more

more_moves : (move : History → History → Type 0) (n : ℕ) (old mid new : History) → Repeats move n old mid → move mid new
    → Repeats move (suc n) old new
more_moves move zero old mid new same last = (new, subst (λ (h : History). move h new) same last, refl)
more_moves move (suc n) old mid new (after, first, rest) last = (after, first, more_moves move n after mid new rest last)

pub one_more : (move : History → History → Type 0) (n : ℕ) (old mid new : History) → Repeats move n old mid → move mid new
    → Repeats move (n + 1) old new
one_more move n old mid new moves last =
    let next : suc n ≡ n + 1 = omega arith in
    subst (λ (k : ℕ). Repeats move k old new) next (more_moves move n old mid new moves last)

-- the last of them
record HasLast (move : History → History → Type 0) (n : ℕ) (old new : History) : Type 0 where
  before : History
  moves : Repeats move n old before
  last : move before new

has_last : (move : History → History → Type 0) (n : ℕ) (old new : History) → Repeats move (suc n) old new → HasLast move n old new
has_last move zero old new (mid, first, same) =
    record { before = old; moves = refl; last = subst (move old) (sym same) first }
has_last move (suc n) old new (mid, first, rest) =
    let is = has_last move n mid new rest in
    record { before = is.before; moves = (mid, first, is.moves); last = is.last }

-- ---- how many images are left

-- what each of them makes one less, they make so many less
falls : (many : History → ℕ) (move : History → History → Type 0) → ((old new : History) → move old new → many old ≡ many new + 1)
    → (n : ℕ) (old new : History) → Repeats move n old new → many old ≡ many new + n
falls many move one zero old new same = let is = ap many same in omega arith
falls many move one (suc n) old new (mid, first, rest) =
    let a = one old mid first in
    let b = falls many move one n mid new rest in
    omega arith

-- what each of them makes one more, they make so many more
rises : (many : History → ℕ) (move : History → History → Type 0) → ((old new : History) → move old new → many new ≡ many old + 1)
    → (n : ℕ) (old new : History) → Repeats move n old new → many new ≡ many old + n
rises many move one zero old new same = let is = ap many same in omega arith
rises many move one (suc n) old new (mid, first, rest) =
    let a = one old mid first in
    let b = rises many move one n mid new rest in
    omega arith

length_next : (d : Disk) (ds es : List Disk) → es ≡ d ∷ ds → length es ≡ length ds + 1
length_next d ds es is = let a = ap length is in omega arith

pub undone_past : (n : ℕ) (old new : History) → Repeats Undoes n old new → length old.past ≡ length new.past + n
undone_past = falls (λ h. length h.past) Undoes (λ old new u. length_next new.present new.past old.past u.past)

pub redone_future : (n : ℕ) (old new : History) → Repeats Redoes n old new → length old.future ≡ length new.future + n
redone_future = falls (λ h. length h.future) Redoes (λ old new u. length_next new.present new.future old.future u.future)

-- ---- there and back

-- moves that are taken back one after another leave the history
there_and_back : (move back : History → History → Type 0) → ((old mid new : History) → move old mid → back mid new → new ≡ old)
    → (n : ℕ) (old mid new : History) → Repeats move n old mid → Repeats back n mid new → new ≡ old
there_and_back move back one zero old mid new there again = again ∙ there
there_and_back move back one (suc n) old mid new (next, first, rest) again =
    let is = has_last back n mid new again in
    let same : is.before ≡ next = there_and_back move back one n next mid is.before rest is.moves in
    one old next new first (subst (λ (h : History). back h new) same is.last)

pub same_front : (x y : Disk) (xs ys : List Disk) → x ∷ xs ≡ y ∷ ys → (x ≡ y) × (xs ≡ ys)
same_front x y xs ys is = (cc, cc)

same_change : (x y : ChangeSet) (xs ys : List ChangeSet) → x ∷ xs ≡ y ∷ ys → (x ≡ y) × (xs ≡ ys)
same_change x y xs ys is = (cc, cc)

-- a history of these parts
abbrev of_parts : List Disk → Disk → List Disk → List ChangeSet → List ChangeSet → History
of_parts past present future done undone = record { past = past; present = present; future = future; done = done; undone = undone }

same_history : (h k : History) → h.past ≡ k.past → h.present ≡ k.present → h.future ≡ k.future → h.done ≡ k.done → h.undone ≡ k.undone
    → h ≡ k
same_history h k past present future done undone =
    ap (λ (ds : List Disk). of_parts ds h.present h.future h.done h.undone) past
    ∙ ap (λ (d : Disk). of_parts k.past d h.future h.done h.undone) present
    ∙ ap (λ (ds : List Disk). of_parts k.past k.present ds h.done h.undone) future
    ∙ ap (λ (ps : List ChangeSet). of_parts k.past k.present k.future ps h.undone) done
    ∙ ap (of_parts k.past k.present k.future k.done) undone

-- and so is one that is left by a redo
redone_once : (old mid new : History) → Undoes old mid → Redoes mid new → new ≡ old
redone_once old mid new u r =
    let front = same_front new.present old.present new.future old.future (sym r.future ∙ u.future) in
    let changes = same_change r.change u.change new.undone old.undone (sym r.undone ∙ u.undone) in
    same_history new old (r.past ∙ sym u.past) front.0 front.1
    (r.done ∙ ap (λ (p : ChangeSet). mid.done ++ p ∷ []) changes.0 ∙ sym u.done) changes.1

pub undone_and_redone : (n : ℕ) (old mid new : History) → Repeats Undoes n old mid → Repeats Redoes n mid new → new ≡ old
undone_and_redone = there_and_back Undoes Redoes redone_once

pub redo_exact : RedoIsExact
redo_exact steps old new (mid, there, (last, again, same)) = same ∙ undone_and_redone steps old mid last there again
