-- The blocks that are laid for a file.
use Rattle.std.proofs.Common.{◌≡◌, ℕ, zero, suc, ◌+◌, ◌-◌, ◌*◌, ◌^◌, ◌<◌, ◌≤◌, min, List, [], ◌∷◌, ◌++◌, length, map, take, drop, replicate}
use Rattle.std.proofs.Common.{refl, sym, ap, ◌∙◌, subst, arith, slice_index, Bool, true, cond, Some, Result, Ok, Err, IfOk}
use Rattle.std.specs.Int.{w32, to_le_bytes, from_le_bytes}
use Rattle.std.specs.List.{range_with_len, concat}
use Rattle.std.specs.Result.{result_ok}
use Rattle.std.proofs.lemmas.Bool.{cond-true}
use Rattle.std.proofs.Math.Seq.{take-append_seam, drop-append_seam, drop-append-add}
use Rattle.std.proofs.lemmas.List.{append_assoc, append-nil, map-append, take_min, drop_min, drop-drop, length-append, length-replicate}
use Rattle.std.proofs.lemmas.List.{length-take, take_all}
use Rattle.std.proofs.lemmas.List.FromFn.{map-range_with_len_more}
use Rattle.std.proofs.lemmas.List.Folds.{concat-append}
use Rattle.std.proofs.lemmas.Nat.{from_le_bytes-to_le_bytes_4}
use Rattle.lfs_file.specs.Capacity.{pointers, capacity, bytes_of_blocks}
use Rattle.lfs_file.specs.Laying.{filled, laid, laid_pointers, share_of}
use Rattle.lfs_file.specs.Pointer.{pointer}
use Rattle.lfs_file.proofs.CapacityLemmas.{pointers_few, room_more}
use Rattle.lfs_file.proofs.SliceLemmas.{concat-cons}

-- the number that pointer i of block n has, as a word
word : List ℕ → ℕ → ℕ → List ℕ
word blocks n i = to_le_bytes w32 (slice_index blocks (n - 2 ^ i))

pub pointers-none : (blocks : List ℕ) (n : ℕ) → laid_pointers blocks n 0 ≡ []
unfolding laid_pointers
pointers-none blocks n = refl

-- one pointer more
pub pointers-more : (blocks : List ℕ) (n k : ℕ) → laid_pointers blocks n (k + 1)
    ≡ laid_pointers blocks n k ++ to_le_bytes w32 (slice_index blocks (n - 2 ^ k))
unfolding laid_pointers word
pointers-more blocks n k =
    ap concat (map-range_with_len_more (word blocks n) 0 k k (omega arith))
    ∙ concat-append (map (word blocks n) (range_with_len 0 k)) (word blocks n k ∷ [])
    ∙ ap (λ xs. laid_pointers blocks n k ++ xs) (concat-cons (word blocks n k) [] ∙ append-nil (word blocks n k))

pub length-pointers : (blocks : List ℕ) (n k : ℕ) → length (laid_pointers blocks n k) ≡ 4 * k
length-pointers blocks n zero = ap length (pointers-none blocks n)
length-pointers blocks n (suc k) =
    let earlier : length (laid_pointers blocks n k) ≡ 4 * k = length-pointers blocks n k in
    let number : suc k ≡ k + 1 = omega arith in
    ap (λ m. length (laid_pointers blocks n m)) number ∙ ap length (pointers-more blocks n k)
    ∙ length-append (laid_pointers blocks n k) (to_le_bytes w32 (slice_index blocks (n - 2 ^ k))) ∙ omega (arith, earlier)

-- word i of words in a row
word_at : (f : ℕ → List ℕ) (rest : List ℕ) → ((k : ℕ) → length (f k) ≡ 4) → (i a p : ℕ) → i < p
    → take 4 (drop (4 * i) (concat (map f (range_with_len a p)) ++ rest)) ≡ f (a + i)
word_at f rest four i a zero lt = absurd (omega (arith, lt))
word_at f rest four zero a (suc p) lt =
    let others = concat (map f (range_with_len (a + 1) p)) in
    let place : a ≡ a + 0 = omega arith in
    ap (take 4) (ap (λ xs. xs ++ rest) (concat-cons (f a) (map f (range_with_len (a + 1) p))) ∙ append_assoc (f a) others rest)
    ∙ ap (λ k. take k (f a ++ (others ++ rest))) (sym (four a))
    ∙ take-append_seam (f a) (others ++ rest) ∙ ap f place
word_at f rest four (suc i) a (suc p) lt =
    let others = concat (map f (range_with_len (a + 1) p)) in
    let place : a + 1 + i ≡ a + suc i = omega arith in
    let later : 4 * suc i ≡ length (f a) + 4 * i = omega (arith, four a) in
    ap (λ xs. take 4 (drop (4 * suc i) xs)) (ap (λ xs. xs ++ rest) (concat-cons (f a) (map f (range_with_len (a + 1) p)))
    ∙ append_assoc (f a) others rest)
    ∙ ap (λ k. take 4 (drop k (f a ++ (others ++ rest)))) later
    ∙ ap (take 4) (drop-append-add (f a) (others ++ rest) (4 * i))
    ∙ word_at f rest four i (a + 1) p (omega (arith, lt)) ∙ ap f place

-- a block as the code fills it
pub filled-from : (size n k held : ℕ) (part blocks : List ℕ) (front more block : List ℕ) → 132 ≤ size → length part ≤ capacity size n
    → k ≡ pointers n → front ≡ laid_pointers blocks n k → more ≡ front ++ part → held ≡ length more
    → block ≡ take size more ++ replicate (size - held) 0xff
    → block ≡ filled size part blocks n
unfolding filled
filled-from size n k held part blocks front more block big fits is first then long_is complete =
    let few : pointers n ≤ 33 = pointers_few n in
    let ptrs = laid_pointers blocks n (pointers n) in
    let begins : more ≡ ptrs ++ part = then ∙ ap (λ xs. xs ++ part) (first ∙ ap (laid_pointers blocks n) is) in
    let long : length more ≡ 4 * pointers n + length part = ap length begins ∙ length-append ptrs part
    ∙ ap (λ l. l + length part) (length-pointers blocks n (pointers n)) in
    let left : size - held ≡ capacity size n - length part = omega (arith, long) in
    complete ∙ ap (λ xs. xs ++ replicate (size - held) 0xff) (take_all size more (omega (arith, long, fits, few, big)) ∙ begins)
    ∙ ap (λ m. (ptrs ++ part) ++ replicate m 0xff) left

-- a filled block has the block size
pub length-filled : (size n : ℕ) (part blocks : List ℕ) → 132 ≤ size → length part ≤ capacity size n
    → length (filled size part blocks n) ≡ size
unfolding filled
length-filled size n part blocks big fits =
    let few : pointers n ≤ 33 = pointers_few n in
    let ptrs = laid_pointers blocks n (pointers n) in
    let fill : List ℕ = replicate (capacity size n - length part) 0xff in
    let filling : length fill ≡ capacity size n - length part = length-replicate (capacity size n - length part) 0xff in
    let begins : length (ptrs ++ part) ≡ length ptrs + length part = length-append ptrs part in
    let ptrs_long : length ptrs ≡ 4 * pointers n = length-pointers blocks n (pointers n) in
    let complete : length ((ptrs ++ part) ++ fill) ≡ length (ptrs ++ part) + length fill = length-append (ptrs ++ part) fill in
    omega arith

-- pointer i of a filled block
pub pointer-filled : (size n i : ℕ) (part blocks : List ℕ) → i < pointers n → slice_index blocks (n - 2 ^ i) < 2 ^ 32
    → pointer (filled size part blocks n) i ≡ slice_index blocks (n - 2 ^ i)
unfolding pointer filled laid_pointers word
pointer-filled size n i part blocks lt fits =
    let fill : List ℕ = replicate (capacity size n - length part) 0xff in
    let ptrs : List ℕ = concat (map (word blocks n) (range_with_len 0 (pointers n))) in
    let four : 4 * i + 4 - 4 * i ≡ 4 = omega arith in
    let place : 0 + i ≡ i = omega arith in
    ap (λ k. from_le_bytes w32 (take k (drop (4 * i) ((ptrs ++ part) ++ fill)))) four
    ∙ ap (λ xs. from_le_bytes w32 (take 4 (drop (4 * i) xs))) (append_assoc ptrs part fill)
    ∙ ap (from_le_bytes w32) (word_at (word blocks n) (part ++ fill) (λ k. refl) i 0 (pointers n) lt ∙ ap (word blocks n) place)
    ∙ from_le_bytes-to_le_bytes_4 (slice_index blocks (n - 2 ^ i)) fits

-- what stands behind the pointers of a filled block
pub data-filled : (size n : ℕ) (part blocks : List ℕ) → drop (4 * pointers n) (filled size part blocks n)
    ≡ part ++ replicate (capacity size n - length part) 0xff
unfolding filled
data-filled size n part blocks =
    let ptrs = laid_pointers blocks n (pointers n) in
    let fill : List ℕ = replicate (capacity size n - length part) 0xff in
    ap (drop (4 * pointers n)) (append_assoc ptrs part fill)
    ∙ ap (λ k. drop k (ptrs ++ (part ++ fill))) (sym (length-pointers blocks n (pointers n))) ∙ drop-append_seam ptrs (part ++ fill)

-- the value of a result that is one
pub value_kept : {X E : Type 0} (P : X → Type 0) (r : Result X E) (x : X) → Some x ≡ result_ok r → IfOk r P → P x
value_kept P (Ok y) x is holds = subst P (cc) holds
value_kept P (Err e) x is holds = absurd (cc)

-- one block more
pub laid-more : {X : Type 0} (view : X → List ℕ) (f : ℕ → List ℕ) (n : ℕ) (ok : Bool) (all new : List X) (x : X)
    → map view all ≡ map f (range_with_len 0 n)
    → true ≡ ok → new ≡ cond ok (all ++ x ∷ []) all → view x ≡ f n → map view new ≡ map f (range_with_len 0 (n + 1))
laid-more view f n ok all new x before passed pushed is =
    ap (map view) (pushed ∙ cond-true ok (all ++ x ∷ []) all (sym passed))
    ∙ map-append view all (x ∷ [])
    ∙ ap (λ xs. map view all ++ xs ∷ []) is
    ∙ ap (λ xss. xss ++ f n ∷ []) before
    ∙ sym (map-range_with_len_more f 0 n n (omega arith))

-- the bytes that go into block n, and those that are left
pub part-next : (size n held cut : ℕ) (bytes rest part : List ℕ) → rest ≡ drop (bytes_of_blocks size n) bytes → held ≡ capacity size n
    → cut ≡ min held (length rest) → part ≡ take cut rest
    → part ≡ share_of size bytes n
part-next size n held cut bytes rest part left holds cuts is =
    is ∙ ap (λ k. take k rest) cuts ∙ take_min held rest ∙ ap (λ k. take k rest) holds ∙ ap (take (capacity size n)) left

pub rest-next : (size n held cut : ℕ) (bytes rest later : List ℕ) → rest ≡ drop (bytes_of_blocks size n) bytes → held ≡ capacity size n
    → cut ≡ min held (length rest) → later ≡ drop cut rest
    → later ≡ drop (bytes_of_blocks size (n + 1)) bytes
rest-next size n held cut bytes rest later left holds cuts is =
    is ∙ ap (λ k. drop k rest) cuts ∙ drop_min held rest ∙ ap (λ k. drop k rest) holds ∙ ap (drop (capacity size n)) left
    ∙ drop-drop (capacity size n) (bytes_of_blocks size n) bytes ∙ ap (λ k. drop k bytes) (sym (room_more size n))

-- what block n holds is no more than its bytes_of_blocks
pub part_fits : (size n : ℕ) (bytes : List ℕ) → length (share_of size bytes n) ≤ capacity size n
part_fits size n bytes = omega (arith, length-take (capacity size n) (drop (bytes_of_blocks size n) bytes))

-- all blocks
pub laid-complete : (size n : ℕ) (bytes blocks : List ℕ) (all : List (List ℕ))
    → all ≡ map (λ k. filled size (share_of size bytes k) blocks k) (range_with_len 0 n) → n ≡ length blocks
    → all ≡ laid size bytes blocks
unfolding laid
laid-complete size n bytes blocks all is end = is ∙ ap (λ k. map (λ k. filled size (share_of size bytes k) blocks k) (range_with_len 0 k)) end
