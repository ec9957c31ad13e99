-- The bytes_of_blocks in the first blocks of a file in closed form: each of n blocks gives up 8 bytes, but for the first one and for each one bit of n
-- - 1.
use Rattle.std.proofs.Common.{◌≡◌, ℕ, zero, suc, ◌+◌, ◌-◌, ◌*◌, ◌/◌, ◌%◌, ◌^◌, ◌<◌, ◌≤◌, ◌==◌, false, count_ones, refl, sym, ap, ◌∙◌, inl}
use Rattle.std.proofs.Common.{inr, arith}
use Rattle.std.specs.Int.Count.{count_trailing_zeros, ones_step, under}
use Rattle.std.proofs.lemmas.Nat.{div-add-mod', ones-le}
use Rattle.std.proofs.lemmas.Bool.{cond-false, ne_eqb}
use Rattle.std.proofs.Math.Nat.{div-le_self, mod-lt, pow-suc, suc-mul}
use Rattle.std.proofs.lemmas.Bool.Decides.{eqb_tells}
use Rattle.lfs_file.specs.Capacity.{capacity, least_blocks, pointers, bytes_of_blocks}
use Rattle.lfs_file.proofs.CapacityLemmas.{least_is, pointers_few, room_more}

-- counting one further turns the ones at the end into zeros, and the zero before them into a one
ones_after : (w n : ℕ) → n + 1 < 2 ^ w → count_ones (n + 1) + count_trailing_zeros w (n + 1) ≡ count_ones n + 1
unfolding count_trailing_zeros
ones_after zero n fits = absurd (omega (arith, fits))
ones_after (suc w) n fits =
    let here : count_ones n ≡ n % 2 + count_ones (n / 2) = ones_step n in
    let next : count_ones (n + 1) ≡ (n + 1) % 2 + count_ones ((n + 1) / 2) = ones_step (n + 1) in
    elim (eqb_tells (n % 2) 0) [
      | inl even ↦
          let digit : (n + 1) % 2 ≡ 1 = omega (arith, even.1) in
          let half : count_ones ((n + 1) / 2) ≡ count_ones (n / 2) = ap count_ones (omega (arith, even.1)) in
          let zeros : under ((n + 1) % 2) (count_trailing_zeros w ((n + 1) / 2)) ≡ 0 =
          ap (λ d. under d (count_trailing_zeros w ((n + 1) / 2))) digit in
          omega (arith, even.1)
      | inr odd ↦
          let digit : (n + 1) % 2 ≡ 0 = omega (arith, odd.1) in
          let half : (n + 1) / 2 ≡ n / 2 + 1 = omega (arith, odd.1) in
          let above : count_ones ((n + 1) / 2) ≡ count_ones (n / 2 + 1) = ap count_ones half in
          let zeros : under ((n + 1) % 2) (count_trailing_zeros w ((n + 1) / 2)) ≡ suc (count_trailing_zeros w (n / 2 + 1)) =
          ap (λ d. under d (count_trailing_zeros w ((n + 1) / 2))) digit ∙ ap (λ k. suc (count_trailing_zeros w k)) half in
          let power : 2 ^ suc w ≡ 2 ^ w * 2 = pow-suc 2 w in
          let rest : count_ones (n / 2 + 1) + count_trailing_zeros w (n / 2 + 1) ≡ count_ones (n / 2) + 1 =
          ones_after w (n / 2) (omega (arith, fits, half)) in
          omega (arith, odd.1)
    ]

-- how many pointers a later block has
pointers_after : (n : ℕ) → n + 1 < 2 ^ 32 → pointers (n + 1) + count_ones (n + 1) ≡ count_ones n + 2
pointers_after n fits =
    let later : (n + 1 == 0) ≡ false = ne_eqb (n + 1) 0 (λ none. absurd (omega (arith, none))) in
    let count : pointers (n + 1) ≡ count_trailing_zeros 32 (n + 1) + 1 =
    cond-false (n + 1 == 0) 0 (count_trailing_zeros 32 (n + 1) + 1) later in
    omega (arith, ones_after 32 n fits)

-- the bytes that n + 1 blocks hold
room_is : (share n : ℕ) → 248 ≤ share → n < 2 ^ 32 → bytes_of_blocks (share + 8) (n + 1) ≡ (n + 1) * share + 8 + 4 * count_ones n
room_is share zero big fits =
    let none : pointers 0 ≡ 0 = refl in
    omega (arith, room_more (share + 8) 0, ones-le 0 0 (omega arith))
room_is share (suc n) big fits =
    let number : suc n ≡ n + 1 = omega arith in
    let earlier : bytes_of_blocks (share + 8) (n + 1) ≡ (n + 1) * share + 8 + 4 * count_ones n = room_is share n big (omega (arith, fits)) in
    let more : bytes_of_blocks (share + 8) (n + 1 + 1) ≡ bytes_of_blocks (share + 8) (n + 1) + capacity (share + 8) (n + 1) = room_more (share + 8) (n + 1) in
    let few : pointers (n + 1) ≤ 33 = pointers_few (n + 1) in
    let count : pointers (n + 1) + count_ones (n + 1) ≡ count_ones n + 2 = pointers_after n (omega (arith, fits)) in
    let row : suc (n + 1) * share ≡ (n + 1) * share + share = suc-mul (n + 1) share in
    let rows : (n + 1 + 1) * share ≡ suc (n + 1) * share = ap (λ k. k * share) (omega arith) in
    let all : bytes_of_blocks (share + 8) (n + 1 + 1) ≡ (n + 1 + 1) * share + 8 + 4 * count_ones (n + 1) = omega arith in
    ap (λ k. bytes_of_blocks (share + 8) (k + 1)) number ∙ all ∙ ap (λ k. (k + 1) * share + 8 + 4 * count_ones k) (sym number)

-- more blocks hold no less
room_rises : (size j i : ℕ) → bytes_of_blocks size j ≤ bytes_of_blocks size (j + i)
room_rises size j zero = let number : j + 0 ≡ j = omega arith in rw number (omega arith)
room_rises size j (suc i) =
    let number : j + suc i ≡ j + i + 1 = omega arith in
    rw number (omega (arith, room_rises size j i, room_more size (j + i)))

-- n + 1 blocks are the least where they hold a file that n blocks do not hold
least_next : (size len n : ℕ) → 8 ≤ size → len ≤ bytes_of_blocks size (n + 1) → bytes_of_blocks size n < len → n + 1 ≡ least_blocks size len
least_next size len n big holds less =
    least_is size len (n + 1) big (
      holds,
      λ k below. let number : k + (n - k) ≡ n = omega (arith, below) in
          let rises : bytes_of_blocks size k ≤ bytes_of_blocks size (k + (n - k)) = room_rises size k (n - k) in omega (arith, less, ap (bytes_of_blocks size) number),
    )

pub least-none : (size : ℕ) → 8 ≤ size → 0 ≡ least_blocks size 0
least-none size big = least_is size 0 0 big (omega arith, λ k below. absurd (omega (arith, below)))

pub least-one : (size len : ℕ) → 8 ≤ size → 0 < len → len ≤ size → 1 ≡ least_blocks size len
least-one size len big some few = least_next size len 0 big (omega (arith, room_more size 0)) (omega arith)

-- n blocks hold less than a file that is longer than their shares and 136 bytes
less_held : (share n len : ℕ) → 248 ≤ share → n ≤ 2 ^ 32 → n * share + 136 < len → bytes_of_blocks (share + 8) n < len
less_held share zero len big fits long = omega (arith, long)
less_held share (suc n) len big fits long =
    let number : n + 1 ≡ suc n = omega arith in
    let held : bytes_of_blocks (share + 8) (n + 1) ≡ (n + 1) * share + 8 + 4 * count_ones n = room_is share n big (omega (arith, fits)) in
    let few : count_ones n ≤ 32 = ones-le 32 n (omega (arith, fits)) in
    let rows : (n + 1) * share ≡ suc n * share = ap (λ k. k * share) number in
    let less : bytes_of_blocks (share + 8) (n + 1) < len = omega (arith, held, few, rows, long) in
    rw number at less

-- a file that its last share of n + 1 leaves to the bytes of the ones takes n + 1 blocks
pub least-fits : (share len n over : ℕ) → 248 ≤ share → n < 2 ^ 32 → (n + 1) * share + over + 9 ≡ len → over < 4 * count_ones n
    → n + 1 ≡ least_blocks (share + 8) len
least-fits share len n over big fits is less =
    let row : suc n * share ≡ n * share + share = suc-mul n share in
    let rows : (n + 1) * share ≡ suc n * share = ap (λ k. k * share) (omega arith) in
    least_next (share + 8) len n (omega (arith, big)) (omega (arith, room_is share n big fits, is, less))
    (less_held share n len big (omega (arith, fits)) (omega (arith, big, is, row, rows)))

-- and another one takes one block more
pub least-more : (share len n over : ℕ) → 248 ≤ share → n + 1 < 2 ^ 32 → (n + 1) * share + over + 9 ≡ len → over < share
    → 4 * count_ones n ≤ over → n + 2 ≡ least_blocks (share + 8) len
least-more share len n over big fits is within enough =
    let row : suc (n + 1) * share ≡ (n + 1) * share + share = suc-mul (n + 1) share in
    let rows : (n + 1 + 1) * share ≡ suc (n + 1) * share = ap (λ k. k * share) (omega arith) in
    let number : n + 2 ≡ n + 1 + 1 = omega arith in
    number ∙ least_next (share + 8) len (n + 1) (omega (arith, big)) (omega (arith, room_is share (n + 1) big fits, is, within, row, rows))
    (omega (arith, room_is share n big (omega (arith, fits)), is, enough))

-- a division by a share, and its rest
record IsParted (share m : ℕ) : Type 0 where
  again : m / share * share + m % share ≡ m
  less : m % share < share
  few : m / share ≤ m
  some : share ≤ m → 0 < m / share

is_parted : (share m : ℕ) → 0 < share → IsParted share m
is_parted share m some =
    let again : m / share * share + m % share ≡ m = div-add-mod' m share in
    let less : m % share < share = mod-lt m some in
    record {
      again = again;
      less = less;
      few = div-le_self m share;
      some = λ enough. elim (eqb_tells (m / share) 0) [
        | inl none ↦ let nothing : m / share * share ≡ 0 = ap (λ k. k * share) none.1 ∙ omega arith in
            absurd (omega (arith, nothing, again, less, enough))
        | inr more ↦ omega (arith, more.1)
      ];
    }

pub least-complete : (size len : ℕ) → 256 ≤ size → size < len → len < 2 ^ 32
    → (len - 9) % (size - 8) < 4 * count_ones ((len - 9) / (size - 8) - 1)
    → (len - 9) / (size - 8) ≡ least_blocks size len
least-complete size len big long fits less =
    let share = size - 8 in
    let parted = is_parted share (len - 9) (omega (arith, big)) in
    let complete : (len - 9) / share ≡ (len - 9) / share - 1 + 1 = omega (arith, parted.some (omega (arith, long))) in
    let sizes : share + 8 ≡ size = omega (arith, big) in
    let rows : ((len - 9) / share - 1 + 1) * share ≡ (len - 9) / share * share = ap (λ k. k * share) (sym complete) in
    complete
    ∙ least-fits share len ((len - 9) / share - 1) ((len - 9) % share) (omega (arith, big)) (omega (arith, parted.few, fits))
    (omega (arith, rows, parted.again, long, big)) less
    ∙ ap (λ s. least_blocks s len) sizes

pub least-one_more : (size len : ℕ) → 256 ≤ size → size < len → len < 2 ^ 32
    → 4 * count_ones ((len - 9) / (size - 8) - 1) ≤ (len - 9) % (size - 8)
    → (len - 9) / (size - 8) + 1 ≡ least_blocks size len
least-one_more size len big long fits enough =
    let share = size - 8 in
    let parted = is_parted share (len - 9) (omega (arith, big)) in
    let complete : (len - 9) / share ≡ (len - 9) / share - 1 + 1 = omega (arith, parted.some (omega (arith, long))) in
    let next : (len - 9) / share + 1 ≡ (len - 9) / share - 1 + 2 = omega (arith, complete) in
    let sizes : share + 8 ≡ size = omega (arith, big) in
    let rows : ((len - 9) / share - 1 + 1) * share ≡ (len - 9) / share * share = ap (λ k. k * share) (sym complete) in
    next
    ∙ least-more share len ((len - 9) / share - 1) ((len - 9) % share) (omega (arith, big)) (omega (arith, complete, parted.few, fits))
    (omega (arith, rows, parted.again, long, big)) parted.less enough
    ∙ ap (λ s. least_blocks s len) sizes
