-- The least number of blocks that hold a file.
use Rattle.std.proofs.Common.{◌≡◌, ℕ, zero, suc, ◌+◌, ◌-◌, ◌*◌, ◌%◌, ◌<◌, ◌≤◌, ◌==◌, cond, Bool, true, false, refl, ap, ◌∙◌, map, sum, ◌⊎◌}
use Rattle.std.proofs.Common.{inl, inr, arith}
use borrow.Author.Count.{below_more}
use Rattle.std.specs.Int.Count.{count_trailing_zeros}
use Rattle.std.specs.List.{range_with_len}
use Rattle.std.proofs.lemmas.List.FromFn.{map-range_with_len_more}
use Rattle.std.proofs.lemmas.List.Sums.{sum_by_push}
use Rattle.std.proofs.lemmas.Bool.Decides.{leb_tells, eqb_tells}
use Rattle.std.proofs.lemmas.Nat.{trailing_le}
use Rattle.lfs_file.specs.Capacity.{pointers, capacity, bytes_of_blocks, IsLeast, least_from, least_blocks}

pub room_more : (size n : ℕ) → bytes_of_blocks size (n + 1) ≡ bytes_of_blocks size n + capacity size n
room_more size n =
    ap sum (map-range_with_len_more (capacity size) 0 n n (omega arith))
    ∙ sum_by_push (λ x. x) (map (capacity size) (range_with_len 0 n)) (capacity size n)

few_at : (b : Bool) (t : ℕ) → t ≤ 32 → cond b 0 (t + 1) ≤ 33
few_at true t h = omega arith
few_at false t h = omega arith

-- a block has 33 pointers at most, as the zeros of 32 bits allow
pub pointers_few : (n : ℕ) → pointers n ≤ 33
pointers_few n = few_at (n == 0) (count_trailing_zeros 32 n) (trailing_le 32 n)

-- a block of an odd number has one pointer
odd_pointers : (n : ℕ) → n % 2 ≡ 1 → pointers n ≡ 1
unfolding count_trailing_zeros
odd_pointers n odd = elim (eqb_tells n 0) [ inl none ↦ absurd (omega (arith, none.1, odd)) | inr some ↦ rw (some.0, odd) refl ]

parity : (n : ℕ) → (n % 2 ≡ 1) ⊎ ((n + 1) % 2 ≡ 1)
parity n = elim (eqb_tells (n % 2) 1) [ inl h ↦ inl h.1 | inr h ↦ inr (omega (arith, h.1)) ]

held : (size p q : ℕ) → 8 ≤ size → (p ≡ 1) ⊎ (q ≡ 1) → 4 ≤ (size - 4 * p) + (size - 4 * q)
held size p q big (inl e) = omega arith
held size p q big (inr e) = omega arith

odd_one : (n : ℕ) → (n % 2 ≡ 1) ⊎ ((n + 1) % 2 ≡ 1) → (pointers n ≡ 1) ⊎ (pointers (n + 1) ≡ 1)
odd_one n (inl odd) = inl (odd_pointers n odd)
odd_one n (inr odd) = inr (odd_pointers (n + 1) odd)

-- two blocks in a row hold 4 bytes or more
two_hold : (size n : ℕ) → 8 ≤ size → 4 ≤ capacity size n + capacity size (n + 1)
two_hold size n big = held size (pointers n) (pointers (n + 1)) big (odd_one n (parity n))

-- n blocks hold 2 * n bytes or more
pub room_grows : (size n : ℕ) → 8 ≤ size → 2 * n ≤ bytes_of_blocks size n
room_grows size zero big = omega arith
room_grows size (suc zero) big = omega arith
room_grows size (suc (suc n)) big =
    let earlier : 2 * n ≤ bytes_of_blocks size n = room_grows size n big in
    let first : bytes_of_blocks size (n + 1) ≡ bytes_of_blocks size n + capacity size n = room_more size n in
    let second : bytes_of_blocks size (n + 1 + 1) ≡ bytes_of_blocks size (n + 1) + capacity size (n + 1) = room_more size (n + 1) in
    let both : 4 ≤ capacity size n + capacity size (n + 1) = two_hold size n big in
    let number : n + 1 + 1 ≡ suc (suc n) = omega arith in
    let held_by : 2 * suc (suc n) ≤ bytes_of_blocks size (n + 1 + 1) = omega arith in
    rw number at held_by

least_from_is : (size len n steps m : ℕ) → n + steps ≡ m → ((k : ℕ) → k < n → bytes_of_blocks size k < len) → len ≤ bytes_of_blocks size m
    → IsLeast size len (least_from size len n steps)
unfolding least_from
least_from_is size len n zero m is below enough =
    let same : m ≡ n = omega arith in
    (rw same at enough, below)
least_from_is size len n (suc steps) m is below enough =
    let next : n + 1 + steps ≡ m = omega arith in
    elim (leb_tells len (bytes_of_blocks size n)) [
      | inl here ↦ rw here.0 (here.1, below)
      | inr more ↦ rw more.0 (least_from_is size len (n + 1) steps m next (below_more _ _ below more.1) enough)
    ]

pub least_blocks-is : (size len : ℕ) → 8 ≤ size → IsLeast size len (least_blocks size len)
unfolding least_blocks
least_blocks-is size len big =
    least_from_is size len 0 len len (omega arith) (λ k h. absurd (omega (arith, h))) (omega (arith, room_grows size len big))

pub least_is_one : (size len m n : ℕ) → IsLeast size len m → IsLeast size len n → m ≡ n
least_is_one size len m n these those = grind (arith, these.0, these.1 n, those.0, those.1 m)

pub least_is : (size len n : ℕ) → 8 ≤ size → IsLeast size len n → n ≡ least_blocks size len
least_is size len n big is = least_is_one size len n (least_blocks size len) is (least_blocks-is size len big)
