-- The checksum of bytes by tables: shifting bits out is linear over the exclusive or.
use Rattle.std.proofs.Common.{◌≡◌, ℕ, ◌+◌, ◌*◌, ◌/◌, ◌%◌, ◌^◌, ◌<◌, ◌==◌, if◌then◌else◌, refl, ap, ap₂, sym, ◌∙◌, arith, suc, zero, bit_and}
use Rattle.std.proofs.Common.{zero-add}
use Rattle.std.specs.Prelude.{bit_xor, List, [], ◌∷◌, ◌++◌, length, take, drop, map, slice_index_or}
use Rattle.std.specs.List.{range_with_len, fold}
use Rattle.std.specs.Simd.{first_chunks}
use Rattle.std.proofs.lemmas.List.Sums.{fold-append}
use Rattle.lfs_block.specs.declared.checksum_tables.TheConstants.{TABLES}
use Rattle.std.specs.Int.{w64, from_le_bytes}
use Rattle.std.specs.Int.Bits.{xor_assoc, xor_shifted}
use Rattle.std.proofs.lemmas.Nat.{xor_comm, xor_shr, xor_mod}
use Rattle.std.proofs.lemmas.Grind.{and_numeral}
use native.Mathlib.Nat.{suc-mul, zero-mul}
use Rattle.std.proofs.lemmas.List.{get_or-map, length-map, take-append-drop, drop-take, take-take}
use Rattle.std.proofs.lemmas.List.FromFn.{length-range_with_len, get_or-range_with_len}
use Rattle.lfs_block.specs.Checksum.{crc_bit, crc_bits, crc_shifted, crc_byte, crc}

abbrev polynomial : ℕ
polynomial = 0xedb88320

-- exchanges the middle two of four
xor_middle : (a b c d : ℕ) → bit_xor (bit_xor a b) (bit_xor c d) ≡ bit_xor (bit_xor a c) (bit_xor b d)
xor_middle a b c d =
    xor_assoc a b (bit_xor c d)
    ∙ ap (bit_xor a) (sym (xor_assoc b c d) ∙ ap (λ x. bit_xor x d) (xor_comm b c) ∙ xor_assoc c b d)
    ∙ sym (xor_assoc a c (bit_xor b d))

xor_zero : (a : ℕ) → bit_xor a 0 ≡ a
xor_zero a = xor_comm a 0

-- pairs four with four, one by one, before the rest
four_and_rest : (a b c d x y z w r : ℕ)
    → bit_xor (bit_xor a (bit_xor b (bit_xor c d))) (bit_xor x (bit_xor y (bit_xor z (bit_xor w r))))
    ≡ bit_xor (bit_xor a x) (bit_xor (bit_xor b y) (bit_xor (bit_xor c z) (bit_xor (bit_xor d w) r)))
four_and_rest a b c d x y z w r =
    xor_middle a (bit_xor b (bit_xor c d)) x (bit_xor y (bit_xor z (bit_xor w r)))
    ∙ ap (bit_xor (bit_xor a x))
    (xor_middle b (bit_xor c d) y (bit_xor z (bit_xor w r))
    ∙ ap (bit_xor (bit_xor b y)) (xor_middle c d z (bit_xor w r) ∙ ap (bit_xor (bit_xor c z)) (sym (xor_assoc d w r))))

abbrev reduced : ℕ → ℕ → ℕ
reduced low high = if low == 1 then bit_xor high polynomial else high

reduced-xor : (p q x y : ℕ) → p < 2 → q < 2 → reduced (bit_xor p q) (bit_xor x y) ≡ bit_xor (reduced p x) (reduced q y)
reduced-xor zero zero x y hp hq = refl
reduced-xor zero (suc zero) x y hp hq = xor_assoc x y polynomial
reduced-xor (suc zero) zero x y hp hq = xor_assoc x y polynomial ∙ ap (bit_xor x) (xor_comm y polynomial) ∙ sym (xor_assoc x polynomial y)
reduced-xor (suc zero) (suc zero) x y hp hq = sym (xor_zero (bit_xor x y)) ∙ xor_middle x y polynomial polynomial
reduced-xor zero (suc (suc q)) x y hp hq = absurd (omega arith)
reduced-xor (suc zero) (suc (suc q)) x y hp hq = absurd (omega arith)
reduced-xor (suc (suc p)) q x y hp hq = absurd (omega arith)

pub crc_bit-xor : (a b : ℕ) → crc_bit (bit_xor a b) ≡ bit_xor (crc_bit a) (crc_bit b)
unfolding crc_bit
crc_bit-xor a b =
    ap (λ h. reduced (bit_xor a b % 2) h) (xor_shr a b 1)
    ∙ ap (λ l. reduced l (bit_xor (a / 2) (b / 2))) (xor_mod a b 1)
    ∙ reduced-xor (a % 2) (b % 2) (a / 2) (b / 2) (omega arith) (omega arith)

pub crc_bits-xor : (a b : ℕ) → crc_bits (bit_xor a b) ≡ bit_xor (crc_bits a) (crc_bits b)
unfolding crc_bits
crc_bits-xor a b = simp crc_bit-xor

-- an even number loses its last bit
crc_bit-even : (a : ℕ) → crc_bit (2 * a) ≡ a
unfolding crc_bit
crc_bit-even a =
    let low : 2 * a % 2 ≡ 0 = omega arith in
    let high : 2 * a / 2 ≡ a = omega arith in
    ap (λ l. reduced l (2 * a / 2)) low ∙ high

pub crc_bits-shifted : (a : ℕ) → crc_bits (256 * a) ≡ a
unfolding crc_bits
crc_bits-shifted a =
    let e : 256 * a ≡ 2 * (2 * (2 * (2 * (2 * (2 * (2 * (2 * a))))))) = omega arith in
    rw e (simp crc_bit-even)

-- the low byte by the table, and the rest shifted
pub crc_bits-split : (x : ℕ) → crc_bits x ≡ bit_xor (crc_bits (x % 256)) (x / 256)
crc_bits-split x =
    let low : x % 256 < 2 ^ 8 = omega arith in
    let complete : (x / 256) * 2 ^ 8 + x % 256 ≡ x = omega arith in
    let shift : (x / 256) * 2 ^ 8 ≡ 256 * (x / 256) = omega arith in
    let parts : bit_xor ((x / 256) * 2 ^ 8) (x % 256) ≡ x = xor_shifted (x / 256) 8 (x % 256) low ∙ complete in
    ap crc_bits (sym parts)
    ∙ crc_bits-xor ((x / 256) * 2 ^ 8) (x % 256)
    ∙ ap (λ y. bit_xor y (crc_bits (x % 256))) (ap crc_bits shift ∙ crc_bits-shifted (x / 256))
    ∙ xor_comm (x / 256) (crc_bits (x % 256))

pub crc_shifted-xor : (n a b : ℕ) → crc_shifted n (bit_xor a b) ≡ bit_xor (crc_shifted n a) (crc_shifted n b)
unfolding crc_shifted
crc_shifted-xor zero a b = refl
crc_shifted-xor (suc n) a b = ap (crc_shifted n) (crc_bits-xor a b) ∙ crc_shifted-xor n (crc_bits a) (crc_bits b)

-- the low byte is shifted out first
crc_shifted-split : (n x : ℕ) → crc_shifted (suc n) x ≡ bit_xor (crc_shifted (suc n) (x % 256)) (crc_shifted n (x / 256))
unfolding crc_shifted
crc_shifted-split n x = ap (crc_shifted n) (crc_bits-split x) ∙ crc_shifted-xor n (crc_bits (x % 256)) (x / 256)

-- one byte more
pub crc_byte-split : (c b : ℕ) → b < 2 ^ 8 → crc_byte c b ≡ bit_xor (crc_shifted 1 (bit_xor (c % 256) b)) (c / 256)
unfolding crc_byte crc_shifted
crc_byte-split c b byte =
    let byte_gone : b / 2 ^ 8 ≡ 0 = omega arith in
    let byte_stays : b % 2 ^ 8 ≡ b = omega arith in
    let low : bit_xor c b % 256 ≡ bit_xor (c % 256) b = xor_mod c b 8 ∙ ap (bit_xor (c % 2 ^ 8)) byte_stays in
    let high : bit_xor c b / 256 ≡ c / 256 = xor_shr c b 8 ∙ ap (bit_xor (c / 2 ^ 8)) byte_gone ∙ xor_zero (c / 256) in
    crc_bits-split (bit_xor c b)
    ∙ ap (λ l. bit_xor (crc_bits l) (bit_xor c b / 256)) low
    ∙ ap (bit_xor (crc_bits (bit_xor (c % 256) b))) high

-- the checksum is that of the start value and that of the bytes, by exclusive or
crc-split : (c : ℕ) (bytes : List ℕ) → crc c bytes ≡ bit_xor (crc_shifted (length bytes) c) (crc 0 bytes)
unfolding crc_shifted crc_byte
crc-split c [] = sym (xor_zero c)
crc-split c (b ∷ bytes) =
    crc-split (crc_bits (bit_xor c b)) bytes
    ∙ ap (λ x. bit_xor (crc_shifted (length bytes) x) (crc 0 bytes)) (crc_bits-xor c b)
    ∙ ap (λ x. bit_xor x (crc 0 bytes)) (crc_shifted-xor (length bytes) (crc_bits c) (crc_bits b))
    ∙ xor_assoc (crc_shifted (length bytes) (crc_bits c)) (crc_shifted (length bytes) (crc_bits b)) (crc 0 bytes)
    ∙ ap (bit_xor (crc_shifted (length bytes) (crc_bits c))) (sym (crc-split (crc_bits b) bytes))

-- the first byte is shifted out by the bytes behind it
crc-first : (b : ℕ) (bytes : List ℕ) → crc 0 (b ∷ bytes) ≡ bit_xor (crc_shifted (suc (length bytes)) b) (crc 0 bytes)
unfolding crc_shifted crc_byte
crc-first b bytes = crc-split (crc_bits b) bytes

-- a word of 32 bits by its bytes
crc_shifted-word : (c : ℕ) → c < 2 ^ 32
    → crc_shifted 8 c
    ≡ bit_xor (crc_shifted 8 (c % 256)) (bit_xor (crc_shifted 7 (c / 256 % 256))
    (bit_xor (crc_shifted 6 (c / 65536 % 256)) (crc_shifted 5 (c / 16777216 % 256))))
crc_shifted-word c fits =
    let third : c / 256 / 256 ≡ c / 65536 = omega arith in
    let fourth : c / 65536 / 256 ≡ c / 16777216 % 256 = omega arith in
    crc_shifted-split 7 c
    ∙ ap (bit_xor (crc_shifted 8 (c % 256)))
    (crc_shifted-split 6 (c / 256)
    ∙ ap (bit_xor (crc_shifted 7 (c / 256 % 256)))
    (ap (crc_shifted 6) third ∙ crc_shifted-split 5 (c / 65536)
    ∙ ap (λ x. bit_xor (crc_shifted 6 (c / 65536 % 256)) (crc_shifted 5 x)) fourth))

-- eight bytes more: the first four meet those of the checksum
crc-eight : (c a0 a1 a2 a3 a4 a5 a6 a7 : ℕ) → c < 2 ^ 32
    → crc c (a0 ∷ a1 ∷ a2 ∷ a3 ∷ a4 ∷ a5 ∷ a6 ∷ a7 ∷ [])
    ≡ bit_xor (bit_xor (bit_xor (bit_xor (bit_xor (bit_xor (bit_xor (crc_shifted 8 (bit_xor (c % 256) a0))
    (crc_shifted 7 (bit_xor (c / 256 % 256) a1)))
    (crc_shifted 6 (bit_xor (c / 65536 % 256) a2))) (crc_shifted 5 (bit_xor (c / 16777216 % 256) a3))) (crc_shifted 4 a4))
    (crc_shifted 3 a5)) (crc_shifted 2 a6)) (crc_shifted 1 a7)
crc-eight c a0 a1 a2 a3 a4 a5 a6 a7 fits =
    let c0 : ℕ = c % 256 in
    let c1 : ℕ = c / 256 % 256 in
    let c2 : ℕ = c / 65536 % 256 in
    let c3 : ℕ = c / 16777216 % 256 in
    let low : crc 0 (a4 ∷ a5 ∷ a6 ∷ a7 ∷ []) ≡ bit_xor (crc_shifted 4 a4)
    (bit_xor (crc_shifted 3 a5) (bit_xor (crc_shifted 2 a6) (crc_shifted 1 a7))) =
    crc-first a4 (a5 ∷ a6 ∷ a7 ∷ [])
    ∙ ap (bit_xor (crc_shifted 4 a4)) (crc-first a5 (a6 ∷ a7 ∷ []) ∙ ap (bit_xor (crc_shifted 3 a5))
    (crc-first a6 (a7 ∷ []) ∙ ap (bit_xor (crc_shifted 2 a6)) (crc-first a7 [] ∙ xor_zero (crc_shifted 1 a7)))) in
    let all : crc 0 (a0 ∷ a1 ∷ a2 ∷ a3 ∷ a4 ∷ a5 ∷ a6 ∷ a7 ∷ [])
    ≡ bit_xor (crc_shifted 8 a0) (bit_xor (crc_shifted 7 a1) (bit_xor (crc_shifted 6 a2)
    (bit_xor (crc_shifted 5 a3) (crc 0 (a4 ∷ a5 ∷ a6 ∷ a7 ∷ []))))) =
    crc-first a0 (a1 ∷ a2 ∷ a3 ∷ a4 ∷ a5 ∷ a6 ∷ a7 ∷ [])
    ∙ ap (bit_xor (crc_shifted 8 a0)) (crc-first a1 (a2 ∷ a3 ∷ a4 ∷ a5 ∷ a6 ∷ a7 ∷ []) ∙ ap (bit_xor (crc_shifted 7 a1))
    (crc-first a2 (a3 ∷ a4 ∷ a5 ∷ a6 ∷ a7 ∷ []) ∙ ap (bit_xor (crc_shifted 6 a2)) (crc-first a3 (a4 ∷ a5 ∷ a6 ∷ a7 ∷ [])))) in
    crc-split c (a0 ∷ a1 ∷ a2 ∷ a3 ∷ a4 ∷ a5 ∷ a6 ∷ a7 ∷ [])
    ∙ ap₂ bit_xor (crc_shifted-word c fits) (all ∙ ap (λ x. bit_xor (crc_shifted 8 a0)
    (bit_xor (crc_shifted 7 a1) (bit_xor (crc_shifted 6 a2) (bit_xor (crc_shifted 5 a3) x)))) low)
    ∙ four_and_rest (crc_shifted 8 c0) (crc_shifted 7 c1) (crc_shifted 6 c2) (crc_shifted 5 c3) (crc_shifted 8 a0) (crc_shifted 7 a1)
    (crc_shifted 6 a2) (crc_shifted 5 a3)
    (bit_xor (crc_shifted 4 a4) (bit_xor (crc_shifted 3 a5) (bit_xor (crc_shifted 2 a6) (crc_shifted 1 a7))))
    ∙ simp (← crc_shifted-xor) (simp xor_assoc)

eight-are : (bytes : List ℕ) → length bytes ≡ 8
    → bytes
    ≡ slice_index_or bytes 0 0 ∷ slice_index_or bytes 1 0 ∷ slice_index_or bytes 2 0 ∷ slice_index_or bytes 3 0
    ∷ slice_index_or bytes 4 0 ∷ slice_index_or bytes 5 0 ∷ slice_index_or bytes 6 0 ∷ slice_index_or bytes 7 0 ∷ []
eight-are [] len = absurd cc
eight-are (_ ∷ []) len = absurd cc
eight-are (_ ∷ _ ∷ []) len = absurd cc
eight-are (_ ∷ _ ∷ _ ∷ []) len = absurd cc
eight-are (_ ∷ _ ∷ _ ∷ _ ∷ []) len = absurd cc
eight-are (_ ∷ _ ∷ _ ∷ _ ∷ _ ∷ []) len = absurd cc
eight-are (_ ∷ _ ∷ _ ∷ _ ∷ _ ∷ _ ∷ []) len = absurd cc
eight-are (_ ∷ _ ∷ _ ∷ _ ∷ _ ∷ _ ∷ _ ∷ []) len = absurd cc
eight-are (_ ∷ _ ∷ _ ∷ _ ∷ _ ∷ _ ∷ _ ∷ _ ∷ []) len = refl
eight-are (_ ∷ _ ∷ _ ∷ _ ∷ _ ∷ _ ∷ _ ∷ _ ∷ _ ∷ bytes) len = absurd (omega arith)

-- so many rows, each what one byte more shifted out leaves of the row before
rows : ℕ → List ℕ → List (List ℕ)
rows zero row = []
rows (suc n) row = map crc_bits row ∷ rows n (map crc_bits row)

-- the tables are what one byte shifted out and more leave of each byte
tables-are : TABLES ≡ rows 16 (range_with_len 0 256)
unfolding crc_bits crc_bit rows
tables-are = refl

rows_word : (n k i : ℕ) (row : List ℕ) → k < n → i < length row → slice_index_or (slice_index_or (rows n row) k []) i 0
    ≡ crc_shifted (suc k) (slice_index_or row i 0)
unfolding rows crc_shifted
rows_word zero k i row hk hi = absurd (omega arith)
rows_word (suc n) zero i row hk hi = get_or-map crc_bits row i 0 0 hi
rows_word (suc n) (suc k) i row hk hi =
    rows_word n k i (map crc_bits row) (omega arith) (rw (length-map row crc_bits) hi)
    ∙ ap (crc_shifted (suc k)) (get_or-map crc_bits row i 0 0 hi)

-- the word of a byte in each table
pub tables_word : (tables : List (List ℕ)) (k i : ℕ) → k < 16 → i < 256 → tables ≡ TABLES
    → slice_index_or (slice_index_or tables k []) i 0 ≡ crc_shifted (suc k) i
tables_word tables k i hk hi is =
    ap (λ t. slice_index_or (slice_index_or t k []) i 0) (is ∙ tables-are)
    ∙ rows_word 16 k i (range_with_len 0 256) hk (rw (length-range_with_len 0 256) hi)
    ∙ ap (crc_shifted (suc k)) (get_or-range_with_len 0 256 i 0 hi ∙ zero-add i)

-- one byte more, by the table
pub add-byte : (c b word : ℕ) → b < 2 ^ 8 → word ≡ crc_shifted 1 (bit_xor (bit_and c 255) b) → bit_xor word (c / 256) ≡ crc_byte c b
add-byte c b word byte is =
    let masked : bit_and c 255 ≡ c % 256 = and_numeral c 254 refl in
    ap (λ w. bit_xor w (c / 256)) (is ∙ ap (λ l. crc_shifted 1 (bit_xor l b)) masked) ∙ sym (crc_byte-split c b byte)

-- eight bytes more, by the tables, where the first four meet those of the checksum one by one
add-words : (c : ℕ) (own bytes : List ℕ) (w0 w1 w2 w3 w4 w5 w6 w7 : ℕ) → c < 2 ^ 32 → length bytes ≡ 8
    → own ≡ c % 256 ∷ c / 256 % 256 ∷ c / 65536 % 256 ∷ c / 16777216 % 256 ∷ []
    → w0 ≡ crc_shifted 8 (bit_xor (slice_index_or own 0 0) (slice_index_or bytes 0 0))
    → w1 ≡ crc_shifted 7 (bit_xor (slice_index_or own 1 0) (slice_index_or bytes 1 0))
    → w2 ≡ crc_shifted 6 (bit_xor (slice_index_or own 2 0) (slice_index_or bytes 2 0))
    → w3 ≡ crc_shifted 5 (bit_xor (slice_index_or own 3 0) (slice_index_or bytes 3 0))
    → w4 ≡ crc_shifted 4 (slice_index_or bytes 4 0) → w5 ≡ crc_shifted 3 (slice_index_or bytes 5 0)
    → w6 ≡ crc_shifted 2 (slice_index_or bytes 6 0) → w7 ≡ crc_shifted 1 (slice_index_or bytes 7 0)
    → bit_xor (bit_xor (bit_xor (bit_xor (bit_xor (bit_xor (bit_xor w0 w1) w2) w3) w4) w5) w6) w7 ≡ crc c bytes
add-words c own bytes w0 w1 w2 w3 w4 w5 w6 w7 fits len is e0 e1 e2 e3 e4 e5 e6 e7 =
    rw (e0, e1, e2, e3, e4, e5, e6, e7, is) (sym (crc-eight c _ _ _ _ _ _ _ _ fits) ∙ ap (crc c) (sym (eight-are bytes len)))

-- a byte of two words that meet
met-byte : (c w k : ℕ) → bit_xor c w / 2 ^ k % 2 ^ 8 ≡ bit_xor (c / 2 ^ k % 2 ^ 8) (w / 2 ^ k % 2 ^ 8)
met-byte c w k = ap (λ (x : ℕ). x % 2 ^ 8) (xor_shr c w k) ∙ xor_mod (c / 2 ^ k) (w / 2 ^ k) 8

-- the last four of eight go to the front
last-first : (a b c d e f g h : ℕ)
    → bit_xor (bit_xor (bit_xor (bit_xor (bit_xor (bit_xor (bit_xor e f) g) h) a) b) c) d
    ≡ bit_xor (bit_xor (bit_xor (bit_xor (bit_xor (bit_xor (bit_xor a b) c) d) e) f) g) h
last-first a b c d e f g h =
    let front : ℕ = bit_xor (bit_xor (bit_xor a b) c) d in
    let behind : ℕ = bit_xor (bit_xor (bit_xor e f) g) h in
    let apart : bit_xor (bit_xor (bit_xor (bit_xor behind a) b) c) d ≡ bit_xor behind front = simp xor_assoc in
    let joined : bit_xor front behind ≡ bit_xor (bit_xor (bit_xor (bit_xor front e) f) g) h = simp xor_assoc in
    apart ∙ xor_comm behind front ∙ joined

-- no byte shifted out
pub none-shifted : (c x : ℕ) → x ≡ crc_shifted 0 c → x ≡ c
unfolding crc_shifted
none-shifted c x is = is

-- some bytes shifted out, and then more
crc_shifted-more : (n k x : ℕ) → crc_shifted (k + n) x ≡ crc_shifted k (crc_shifted n x)
unfolding crc_shifted
crc_shifted-more zero k x =
    let none : k + 0 ≡ k = omega arith in
    ap (λ m. crc_shifted m x) none
crc_shifted-more (suc n) k x =
    let one : k + suc n ≡ suc (k + n) = omega arith in
    ap (λ m. crc_shifted m x) one ∙ crc_shifted-more n k (crc_bits x)

-- a word of a table further on, by that of eight tables or fewer
shifted-on : (k m n x w : ℕ) → w ≡ crc_shifted m x → m ≡ k + n → w ≡ crc_shifted k (crc_shifted n x)
shifted-on k m n x w is on = is ∙ ap (λ m. crc_shifted m x) on ∙ crc_shifted-more n k x

-- words that meet, once some bytes are shifted out
shifted-chain : (k a b c d e f g h : ℕ)
    → crc_shifted k (bit_xor (bit_xor (bit_xor (bit_xor (bit_xor (bit_xor (bit_xor a b) c) d) e) f) g) h)
    ≡ bit_xor (bit_xor (bit_xor (bit_xor (bit_xor (bit_xor (bit_xor (crc_shifted k a) (crc_shifted k b)) (crc_shifted k c)) (crc_shifted k d))
    (crc_shifted k e)) (crc_shifted k f)) (crc_shifted k g)) (crc_shifted k h)
shifted-chain k a b c d e f g h = simp crc_shifted-xor

-- the bytes of a word of 64 bits
word-bytes : (w : ℕ) (bytes : List ℕ) → length bytes ≡ 8 → ((i : ℕ) → slice_index_or bytes i 0 < 256) → w ≡ from_le_bytes w64 bytes
    → (w % 256 ≡ slice_index_or bytes 0 0) × (w / 256 % 256 ≡ slice_index_or bytes 1 0) × (w / 65536 % 256 ≡ slice_index_or bytes 2 0)
    × (w / 16777216 % 256 ≡ slice_index_or bytes 3 0) × (w / 4294967296 % 256 ≡ slice_index_or bytes 4 0)
    × (w / 1099511627776 % 256 ≡ slice_index_or bytes 5 0) × (w / 281474976710656 % 256 ≡ slice_index_or bytes 6 0)
    × (w / 72057594037927936 % 256 ≡ slice_index_or bytes 7 0)
word-bytes w bytes len each is =
    let told : w ≡ from_le_bytes w64 (slice_index_or bytes 0 0 ∷ slice_index_or bytes 1 0 ∷ slice_index_or bytes 2 0
    ∷ slice_index_or bytes 3 0 ∷ slice_index_or bytes 4 0 ∷ slice_index_or bytes 5 0 ∷ slice_index_or bytes 6 0
    ∷ slice_index_or bytes 7 0 ∷ []) = is ∙ ap (from_le_bytes w64) (eight-are bytes len) in (
      omega (arith, told, each 0, each 1, each 2, each 3, each 4, each 5, each 6, each 7),
      omega (arith, told, each 0, each 1, each 2, each 3, each 4, each 5, each 6, each 7),
      omega (arith, told, each 0, each 1, each 2, each 3, each 4, each 5, each 6, each 7),
      omega (arith, told, each 0, each 1, each 2, each 3, each 4, each 5, each 6, each 7),
      omega (arith, told, each 0, each 1, each 2, each 3, each 4, each 5, each 6, each 7),
      omega (arith, told, each 0, each 1, each 2, each 3, each 4, each 5, each 6, each 7),
      omega (arith, told, each 0, each 1, each 2, each 3, each 4, each 5, each 6, each 7),
      omega (arith, told, each 0, each 1, each 2, each 3, each 4, each 5, each 6, each 7),
    )

-- a byte of two words of which the first has no more than 32 bits, behind these
met-behind : (c w k : ℕ) → c / 2 ^ k ≡ 0 → bit_xor c w / 2 ^ k % 2 ^ 8 ≡ w / 2 ^ k % 2 ^ 8
met-behind c w k none = met-byte c w k ∙ ap (λ (x : ℕ). bit_xor (x % 2 ^ 8) (w / 2 ^ k % 2 ^ 8)) none

-- what eight bytes more leave once some are shifted out, by the tables, where they meet the checksum as one word
pub eight-shifted : (k c w : ℕ) (met bytes : List ℕ) (w0 w1 w2 w3 w4 w5 w6 w7 : ℕ) → c < 2 ^ 32 → length bytes ≡ 8
    → ((i : ℕ) → slice_index_or bytes i 0 < 256) → w ≡ from_le_bytes w64 bytes
    → met ≡ bit_xor c w % 256 ∷ bit_xor c w / 256 % 256 ∷ bit_xor c w / 65536 % 256 ∷ bit_xor c w / 16777216 % 256
    ∷ bit_xor c w / 4294967296 % 256 ∷ bit_xor c w / 1099511627776 % 256 ∷ bit_xor c w / 281474976710656 % 256
    ∷ bit_xor c w / 72057594037927936 % 256 ∷ []
    → w0 ≡ crc_shifted (k + 7 + 1) (slice_index_or met 0 0)
    → w1 ≡ crc_shifted (k + 6 + 1) (slice_index_or met 1 0)
    → w2 ≡ crc_shifted (k + 5 + 1) (slice_index_or met 2 0)
    → w3 ≡ crc_shifted (k + 4 + 1) (slice_index_or met 3 0)
    → w4 ≡ crc_shifted (k + 3 + 1) (slice_index_or met 4 0)
    → w5 ≡ crc_shifted (k + 2 + 1) (slice_index_or met 5 0)
    → w6 ≡ crc_shifted (k + 1 + 1) (slice_index_or met 6 0)
    → w7 ≡ crc_shifted (k + 1) (slice_index_or met 7 0)
    → bit_xor (bit_xor (bit_xor (bit_xor (bit_xor (bit_xor (bit_xor w4 w5) w6) w7) w0) w1) w2) w3 ≡ crc_shifted k (crc c bytes)
eight-shifted k c w met bytes w0 w1 w2 w3 w4 w5 w6 w7 fits len each is meets e0 e1 e2 e3 e4 e5 e6 e7 =
    let b = word-bytes w bytes len each is in
    let met_is = λ (i : ℕ). ap (λ (l : List ℕ). slice_index_or l i 0) meets in
    let m0 = met_is 0 ∙ xor_mod c w 8 ∙ ap (bit_xor (c % 256)) b.0 in
    let m1 = met_is 1 ∙ met-byte c w 8 ∙ ap (bit_xor (c / 256 % 256)) b.1 in
    let m2 = met_is 2 ∙ met-byte c w 16 ∙ ap (bit_xor (c / 65536 % 256)) b.2 in
    let m3 = met_is 3 ∙ met-byte c w 24 ∙ ap (bit_xor (c / 16777216 % 256)) b.3 in
    let m4 = met_is 4 ∙ met-behind c w 32 (omega (arith, fits)) ∙ b.4 in
    let m5 = met_is 5 ∙ met-behind c w 40 (omega (arith, fits)) ∙ b.5 in
    let m6 = met_is 6 ∙ met-behind c w 48 (omega (arith, fits)) ∙ b.6 in
    let m7 = met_is 7 ∙ met-behind c w 56 (omega (arith, fits)) ∙ b.7 in
    let s0 = shifted-on k (k + 7 + 1) 8 (slice_index_or met 0 0) w0 e0 (omega arith) in
    let s1 = shifted-on k (k + 6 + 1) 7 (slice_index_or met 1 0) w1 e1 (omega arith) in
    let s2 = shifted-on k (k + 5 + 1) 6 (slice_index_or met 2 0) w2 e2 (omega arith) in
    let s3 = shifted-on k (k + 4 + 1) 5 (slice_index_or met 3 0) w3 e3 (omega arith) in
    let s4 = shifted-on k (k + 3 + 1) 4 (slice_index_or met 4 0) w4 e4 (omega arith) in
    let s5 = shifted-on k (k + 2 + 1) 3 (slice_index_or met 5 0) w5 e5 (omega arith) in
    let s6 = shifted-on k (k + 1 + 1) 2 (slice_index_or met 6 0) w6 e6 (omega arith) in
    let s7 = shifted-on k (k + 1) 1 (slice_index_or met 7 0) w7 e7 (omega arith) in
    last-first w0 w1 w2 w3 w4 w5 w6 w7
    ∙ rw (s0, s1, s2, s3, s4, s5, s6, s7)
    (sym (shifted-chain k (crc_shifted 8 (slice_index_or met 0 0)) (crc_shifted 7 (slice_index_or met 1 0))
    (crc_shifted 6 (slice_index_or met 2 0)) (crc_shifted 5 (slice_index_or met 3 0)) (crc_shifted 4 (slice_index_or met 4 0))
    (crc_shifted 3 (slice_index_or met 5 0)) (crc_shifted 2 (slice_index_or met 6 0)) (crc_shifted 1 (slice_index_or met 7 0)))
    ∙ ap (crc_shifted k) (add-words c (c % 256 ∷ c / 256 % 256 ∷ c / 65536 % 256 ∷ c / 16777216 % 256 ∷ []) bytes _ _ _ _ _ _ _ _ fits len refl
    (ap (crc_shifted 8) m0) (ap (crc_shifted 7) m1) (ap (crc_shifted 6) m2) (ap (crc_shifted 5) m3)
    (ap (crc_shifted 4) m4) (ap (crc_shifted 3) m5) (ap (crc_shifted 2) m6) (ap (crc_shifted 1) m7)))

two-are : {A : Type 0} (items : List A) (none : A) → length items ≡ 2 → items ≡ slice_index_or items 0 none ∷ slice_index_or items 1 none ∷ []
two-are [] none len = absurd cc
two-are (_ ∷ []) none len = absurd cc
two-are (_ ∷ _ ∷ []) none len = refl
two-are (_ ∷ _ ∷ _ ∷ items) none len = absurd (omega arith)

-- sixteen bytes more: what the first eight leave once eight are shifted out meets the checksum of the others
pub add-sixteen : (c : ℕ) (first second : List ℕ) (x y : ℕ) → length second ≡ 8
    → x ≡ crc_shifted 8 (crc c first) → y ≡ crc_shifted 0 (crc 0 second) → bit_xor y x ≡ crc (crc c first) second
unfolding crc_shifted
add-sixteen c first second x y len front back =
    xor_comm y x
    ∙ ap₂ bit_xor front back
    ∙ ap (λ n. bit_xor (crc_shifted n (crc c first)) (crc 0 second)) (sym len)
    ∙ sym (crc-split (crc c first) second)

-- the checksum after both of a pair
pub crc-pair : (c : ℕ) (pair : List (List ℕ)) → length pair ≡ 2
    → crc (crc c (slice_index_or pair 0 [])) (slice_index_or pair 1 []) ≡ fold crc c pair
crc-pair c pair two = ap (fold crc c) (sym (two-are pair [] two))

pub take-more : {A : Type 0} (m n : ℕ) (items : List A) → take m items ++ take n (drop m items) ≡ take (m + n) items
take-more m n items =
    ap₂ ◌++◌ (sym (take-take m (m + n) items (omega arith))) (sym (drop-take m n items))
    ∙ take-append-drop m (take (m + n) items)

-- chunks of so many are the whole up to their end
fold-chunks : {A : Type 0} (f : ℕ → A → ℕ) (k n start : ℕ) (items : List A)
    → fold (fold f) start (first_chunks k n items) ≡ fold f start (take (n * k) items)
fold-chunks f k zero start items =
    let none : 0 ≡ 0 * k = sym (zero-mul k) in
    ap (λ m. fold f start (take m items)) none
fold-chunks f k (suc n) start items =
    let all : k + n * k ≡ suc n * k = omega (arith, suc-mul n k) in
    fold-chunks f k n (fold f start (take k items)) (drop k items)
    ∙ sym (fold-append f start (take k items) (take (n * k) (drop k items)))
    ∙ ap (fold f start) (take-more k (n * k) items ∙ ap (λ (m : ℕ). take m items) all)

-- chunks of so many and the rest are the whole
pub fold-parts : {A : Type 0} (f : ℕ → A → ℕ) (k n start : ℕ) (items : List A)
    → fold f (fold (fold f) start (first_chunks k n items)) (drop (n * k) items) ≡ fold f start items
fold-parts f k n start items =
    ap (λ s. fold f s (drop (n * k) items)) (fold-chunks f k n start items)
    ∙ sym (fold-append f start (take (n * k) items) (drop (n * k) items))
    ∙ ap (fold f start) (take-append-drop (n * k) items)
