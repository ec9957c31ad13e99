-- The entry that a move names goes, and no other one.
use Rattle.std.proofs.Common.{◌≡◌, ℕ, zero, suc, ◌+◌, ◌<◌, ◌≤◌, Bool, true, false, List, [], ◌∷◌, ◌++◌, length, take, get_or, refl, ap, sym, ◌∙◌, arith}
use Rattle.std.specs.Prelude.{◌&&◌, Option, Some, None, bit_xor, cond, count_by, if◌then◌else◌, option_map, slice_get}
use Rattle.std.specs.Option.{option_or}
use Rattle.std.specs.List.{remove}
use Rattle.std.proofs.lemmas.Nat.{xor_comm}
use Rattle.std.specs.Int.Bits.{xor_assoc}
use Rattle.std.proofs.lemmas.List.Sums.{sum_by-append, sum_by-cons}
use Rattle.lfs_meta.specs.Entry.{StoredEntry}
use Rattle.lfs_fs.specs.Gathering.{PairPart, delta_from}
use Rattle.lfs_fs.specs.State.{little_endian}
use Rattle.lfs_settle.specs.Ended.{first_moved, moved_in}
use Rattle.lfs_settle.specs.Moved.{is_move, means, moved_entry, unmoved, without_at}
use Rattle.lfs_settle.specs.Laws.{MovedEntryGoes, OthersStay}
use Rattle.lfs_settle.proofs.NextItems.{next_taken}

without_behind : (before : List StoredEntry) (x : StoredEntry) (after : List StoredEntry)
    → without_at (length before) (before ++ x ∷ after) ≡ before ++ after
without_behind [] x after = refl
without_behind (e ∷ before) x after = ap (λ (es : List StoredEntry). e ∷ es) (without_behind before x after)

-- a part with other entries
abbrev pub with_entries : PairPart → List StoredEntry → PairPart
with_entries p es = (p.0, record { entries = es; tail = p.1.tail; delta = p.1.delta })

pub moved_entry_goes : MovedEntryGoes
moved_entry_goes state p before x after move meet is at =
    let both : (is_move state && means state p.0) ≡ true = ap (λ (b : Bool). b && means state p.0) move ∙ meet in
    ap (with_entries p)
    (ap (λ (b : Bool). if b then without_at (moved_entry state) p.1.entries else p.1.entries) both
    ∙ ap (without_at (moved_entry state)) is
    ∙ ap (λ (n : ℕ). without_at n (before ++ x ∷ after)) (sym at)
    ∙ without_behind before x after)

pub others_stay : OthersStay
others_stay state p other =
    ap (with_entries p) (ap (λ (b : Bool). if b then without_at (moved_entry state) p.1.entries else p.1.entries) other)

-- no state means a move
pub none_moved : (p : PairPart) → unmoved 0 p ≡ p
none_moved p = others_stay 0 p refl

-- ---- a list without an element

pub without_removed : {X : Type 0} (xs : List X) (n : ℕ) → n < length xs → without_at n xs ≡ remove xs n
without_removed [] n within = absurd (omega arith)
without_removed (x ∷ xs) zero within = refl
without_removed (x ∷ xs) (suc n) within = ap (λ (ys : List _). x ∷ ys) (without_removed xs n (omega arith))

pub without_past : {X : Type 0} (xs : List X) (n : ℕ) → length xs ≤ n → without_at n xs ≡ xs
without_past [] n past = refl
without_past (x ∷ xs) zero past = absurd (omega arith)
without_past (x ∷ xs) (suc n) past = ap (λ (ys : List _). x ∷ ys) (without_past xs n (omega arith))

-- ---- the entry that goes

-- a part that the move doesn't mean has none
pub none_moved_in : (state : ℕ) (p : PairPart) → (is_move state && means state p.0) ≡ false → moved_in state p ≡ None
none_moved_in state p other =
    ap (λ (b : Bool). if b then option_map (λ (e : StoredEntry). (p.0, e)) (slice_get p.1.entries (moved_entry state)) else None) other

-- one that it means has that of its number
pub moved_in_is : (state : ℕ) (p : PairPart) (x : StoredEntry) → (is_move state && means state p.0) ≡ true
    → slice_get p.1.entries (moved_entry state) ≡ Some x → Some (p.0, x) ≡ moved_in state p
moved_in_is state p x is at =
    sym (ap (λ (b : Bool). if b then option_map (λ (e : StoredEntry). (p.0, e)) (slice_get p.1.entries (moved_entry state)) else None) is
    ∙ ap (option_map (λ (e : StoredEntry). (p.0, e))) at)

or_none : {X : Type 0} (o : Option X) → option_or o None ≡ o
or_none None = refl
or_none (Some x) = refl

or_assoc : {X : Type 0} (a b c : Option X) → option_or a (option_or b c) ≡ option_or (option_or a b) c
or_assoc None b c = refl
or_assoc (Some x) b c = refl

first_moved_push : (state : ℕ) (ps : List PairPart) (p : PairPart)
    → first_moved state (ps ++ p ∷ []) ≡ option_or (first_moved state ps) (moved_in state p)
first_moved_push state [] p = or_none (moved_in state p)
first_moved_push state (q ∷ ps) p =
    ap (option_or (moved_in state q)) (first_moved_push state ps p) ∙ or_assoc (moved_in state q) (first_moved state ps) (moved_in state p)

pub first_moved_more : (state : ℕ) (ps : List PairPart) (i : ℕ) (p : PairPart) → i < length ps → p ≡ get_or ps i p
    → option_or (first_moved state (take i ps)) (moved_in state p) ≡ first_moved state (take (i + 1) ps)
first_moved_more state ps i p within at =
    sym (ap (first_moved state) (next_taken ps i p within at) ∙ first_moved_push state (take i ps) p)

-- ---- the exclusive or of shares

delta_push : (ps : List PairPart) (p : PairPart) → delta_from (ps ++ p ∷ []) ≡ bit_xor (delta_from ps) (little_endian p.1.delta)
delta_push [] p = xor_comm (little_endian p.1.delta) 0
delta_push (q ∷ ps) p =
    ap (bit_xor (little_endian q.1.delta)) (delta_push ps p)
    ∙ sym (xor_assoc (little_endian q.1.delta) (delta_from ps) (little_endian p.1.delta))

pub delta_more : (ps : List PairPart) (i : ℕ) (p : PairPart) → i < length ps → p ≡ get_or ps i p
    → delta_from (take (i + 1) ps) ≡ bit_xor (delta_from (take i ps)) (little_endian p.1.delta)
delta_more ps i p within at = ap delta_from (next_taken ps i p within at) ∙ delta_push (take i ps) p

pub counted_more : (test : PairPart → Bool) (ps : List PairPart) (i : ℕ) (p : PairPart) → i < length ps → p ≡ get_or ps i p
    → count_by test (take (i + 1) ps) ≡ count_by test (take i ps) + cond {A = ℕ} (test p) 1 0
counted_more test ps i p within at =
    ap (count_by test) (next_taken ps i p within at) ∙ sum_by-append (λ (x : PairPart). cond {A = ℕ} (test x) 1 0) (take i ps) (p ∷ [])
    ∙ ap (λ (n : ℕ). count_by test (take i ps) + n) (sum_by-cons (λ (x : PairPart). cond {A = ℕ} (test x) 1 0) p [])
    ∙ omega arith
