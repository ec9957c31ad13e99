-- A pointer as a word, and which block it names.
use Rattle.std.proofs.Common.{◌≡◌, ℕ, ◌+◌, ◌-◌, ◌*◌, ◌/◌, ◌%◌, ◌^◌, ◌<◌, ◌≤◌, eqb, cond, Bool, true, false, List, take, drop, sym, ap, ◌∙◌}
use Rattle.std.proofs.Common.{inl, inr, arith}
use Rattle.std.specs.Int.{w32, from_le_bytes, trailing_zeros, bit_at}
use Rattle.std.proofs.Math.Nat.{div-eq_of_lt, mod-eq_of_lt}
use Rattle.std.proofs.Math.Pow.{pow_mono}
use Rattle.std.proofs.lemmas.List.{get_or-take}
use Rattle.std.proofs.lemmas.Bool.{cases_lt}
use Rattle.std.proofs.lemmas.Nat.Bits.{bit_at-trailing_zeros}
use Rattle.byteorder.specs.Endian.{little_number}
use Rattle.lfs_file.specs.Capacity.{pointers}
use Rattle.lfs_file.specs.Pointer.{pointer}

word_is : (xs : List ℕ) → from_le_bytes w32 (take 4 xs) ≡ little_number 4 xs
word_is xs =
    let a = get_or-take 4 xs 0 0 (omega arith) in
    let b = get_or-take 4 xs 1 0 (omega arith) in
    let c = get_or-take 4 xs 2 0 (omega arith) in
    let d = get_or-take 4 xs 3 0 (omega arith) in
    rw (a, b, c, d) (omega arith)

-- the word that a block holds from byte 4 * i on
pub pointer-is : (block : List ℕ) (i : ℕ) → little_number 4 (drop (4 * i) block) ≡ pointer block i
unfolding pointer
pointer-is block i =
    let four : 4 * i + 4 - 4 * i ≡ 4 = omega arith in
    sym (word_is (drop (4 * i) block)) ∙ ap (λ n. from_le_bytes w32 (take n (drop (4 * i) block))) (sym four)

-- the lowest set bit of a number is no more than the number
lowest_bit : (n k : ℕ) → bit_at n k ≡ 1 → 2 ^ k ≤ n
lowest_bit n k is =
    elim (cases_lt n (2 ^ k)) [
      | inl less ↦ let none : n / 2 ^ k ≡ 0 = div-eq_of_lt less in absurd (omega (arith, none, is))
      | inr enough ↦ enough
    ]

below_zeros : (b : Bool) (n t i : ℕ) → i < cond b 0 (t + 1) → i ≤ t
below_zeros true n t i lt = absurd (omega (arith, lt))
below_zeros false n t i lt = omega (arith, lt)

-- pointer i of block n names a block 2 ^ i before it
pub power_within : (n i : ℕ) → 0 < n → n < 2 ^ 32 → i < pointers n → 2 ^ i ≤ n
power_within n i some fits lt =
    let zeros = bit_at-trailing_zeros w32 n some fits in
    let within : i ≤ trailing_zeros w32 n = below_zeros (eqb n 0) n (trailing_zeros w32 n) i lt in
    let low : 2 ^ trailing_zeros w32 n ≤ n = lowest_bit n (trailing_zeros w32 n) zeros.1 in
    let less : 2 ^ i ≤ 2 ^ trailing_zeros w32 n = pow_mono within in
    omega (arith, low, less)

-- the code's shift of 1 by i
pub shifted_one : (n i : ℕ) → 2 ^ i ≤ n → n < 2 ^ 32 → 1 * 2 ^ i % 2 ^ 64 ≡ 2 ^ i
shifted_one n i within fits =
    let one : 1 * 2 ^ i ≡ 2 ^ i = omega arith in
    let small : 2 ^ i < 2 ^ 64 = omega arith in
    ap (λ x. x % 2 ^ 64) one ∙ mod-eq_of_lt small
