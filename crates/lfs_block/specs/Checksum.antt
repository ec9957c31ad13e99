-- The checksum of a commit: a CRC-32 with the polynomial 0x04c11db7, reflected, with no final inversion
-- (SPEC.md, "0x5xx CRC").
use Rattle.std.specs.Prelude.{ℕ, zero, suc, ◌/◌, ◌%◌, ◌==◌, List, if◌then◌else◌, bit_xor}
use Rattle.std.specs.List.{fold}

-- one bit shifted out
unfoldable pub crc_bit : ℕ → ℕ
crc_bit c = if c % 2 == 1 then bit_xor (c / 2) 0xedb88320 else c / 2

-- eight bits shifted out
unfoldable pub crc_bits : ℕ → ℕ
crc_bits c = crc_bit (crc_bit (crc_bit (crc_bit (crc_bit (crc_bit (crc_bit (crc_bit c)))))))

-- so many bytes shifted out
unfoldable pub crc_shifted : ℕ → ℕ → ℕ
crc_shifted zero c = c
crc_shifted (suc n) c = crc_shifted n (crc_bits c)

-- one more byte
unfoldable pub crc_byte : ℕ → ℕ → ℕ
crc_byte c b = crc_bits (bit_xor c b)

-- the checksum of bytes, one after another, from a start value
abbrev pub crc : ℕ → List ℕ → ℕ
crc start bytes = fold crc_byte start bytes
