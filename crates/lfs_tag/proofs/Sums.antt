-- The checksum of bytes is a word of 32 bits.
use Rattle.std.proofs.Common.{◌≡◌, ℕ, ◌/◌, ◌%◌, ◌^◌, ◌<◌, Bool, true, false, cond, eqb, List, [], ◌∷◌, ◌++◌, arith, bit_xor, suc}
use Rattle.std.proofs.lemmas.Nat.{xor_lt}
use Rattle.std.proofs.lemmas.List.Sums.{fold-append}
use Rattle.lfs_block.specs.Checksum.{crc, crc_byte, crc_bits, crc_bit}
use Rattle.lfs_block.specs.Bytes.{IsBytes}

pub crc-append : (start : ℕ) (a b : List ℕ) → crc start (a ++ b) ≡ crc (crc start a) b
crc-append start a b = fold-append crc_byte start a b

either_below : (b : Bool) (m n limit : ℕ) → m < limit → n < limit → cond b m n < limit
either_below true m n limit h k = h
either_below false m n limit h k = k

crc_bit-below : (c : ℕ) → c < 2 ^ 32 → crc_bit c < 2 ^ 32
unfolding crc_bit
crc_bit-below c h =
    let half : c / 2 < 2 ^ 32 = omega arith in
    either_below (eqb (c % 2) 1) (bit_xor (c / 2) 0xedb88320) (c / 2) (2 ^ 32) (xor_lt 32 (c / 2) 0xedb88320 half (omega arith)) half

crc_byte-below : (c b : ℕ) → c < 2 ^ 32 → b < 2 ^ 8 → crc_byte c b < 2 ^ 32
unfolding crc_byte crc_bits
crc_byte-below c b h k =
    let next = crc_bit-below in
    next _ (next _ (next _ (next _ (next _ (next _ (next _ (next _ (xor_lt 32 c b h (omega arith)))))))))

pub crc-below : (start : ℕ) (bytes : List ℕ) → start < 2 ^ 32 → IsBytes bytes → crc start bytes < 2 ^ 32
crc-below start [] h k = h
crc-below start (b ∷ bytes) h k = crc-below (crc_byte start b) bytes (crc_byte-below start b h (k 0)) (λ i. k (suc i))
