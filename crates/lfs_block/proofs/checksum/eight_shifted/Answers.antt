-- The tables' words for the bytes are what is left of the checksum after them.
use Rattle.std.proofs.Common.{ℕ, ap, ◌∙◌, arith}
use Rattle.lfs_block.specs.Checksum.{crc, crc_shifted}
use Rattle.lfs_block.proofs.ChecksumLemmas.{eight-shifted}
use Rattle.lfs_block.proofs.checksum.eight_shifted.Goals as goal

pub returns : goal.returns
returns c =
    eight-shifted c.args.more c.from.result c.from_le_bytes.result c.to_le_bytes-met.result c.args.bytes.now _ _ _ _ _ _ _ _
    (omega (arith, c.from.ensures)) c.told-bytes c.fits-bytes
    c.from_le_bytes.ensures c.to_le_bytes-met.ensures
    c.shifted-5.ensures c.shifted-6.ensures c.shifted-7.ensures c.shifted-8.ensures
    c.shifted.ensures c.shifted-2.ensures c.shifted-3.ensures c.shifted-4.ensures
    ∙ ap (λ (start : ℕ). crc_shifted c.args.more (crc start c.args.bytes.now)) c.from.ensures
