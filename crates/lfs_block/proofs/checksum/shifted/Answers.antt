-- The word of the byte in its table.
use Rattle.std.proofs.Common.{ℕ, suc, refl, ap, sym, ◌∙◌, arith, add-one}
use Rattle.lfs_block.specs.Checksum.{crc_shifted}
use Rattle.lfs_block.proofs.ChecksumLemmas.{tables_word}
use Rattle.lfs_block.proofs.checksum.shifted.Goals as goal

pub returns : goal.returns
returns c =
    tables_word _ c.args.more c.from.result c.requires (omega arith) refl
    ∙ ap (crc_shifted (suc c.args.more)) c.from.ensures
    ∙ ap (λ (n : ℕ). crc_shifted n c.args.byte) (sym (add-one c.args.more))
