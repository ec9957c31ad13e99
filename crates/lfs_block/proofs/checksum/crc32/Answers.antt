-- The chunks of sixteen bytes, those of eight and the rest are the whole.
use Rattle.std.proofs.Common.{ap, ap₂, ◌∙◌}
use Rattle.std.specs.Prelude.{length, ◌/◌}
use Rattle.std.specs.List.{fold}
use Rattle.lfs_block.specs.Checksum.{crc, crc_byte}
use Rattle.lfs_block.proofs.ChecksumLemmas.{fold-parts}
use Rattle.lfs_block.proofs.checksum.crc32.Goals as goal

pub returns : goal.returns
returns c =
    let eights = c.as_chunks.result.0.now in
    let paired =
    ap₂ (fold crc) (c.add_pairs.ensures ∙ ap (fold (fold crc) c.args.start) c.as_chunks-2.ensures.front) c.as_chunks-2.ensures.back
    ∙ fold-parts crc 2 (length eights / 2) c.args.start eights in
    c.add_bytes.ensures
    ∙ ap₂ crc (c.add_eights.ensures ∙ paired ∙ ap (fold crc c.args.start) c.as_chunks.ensures.front) c.as_chunks.ensures.back
    ∙ fold-parts crc_byte 8 (length c.args.bytes.now / 8) c.args.start c.args.bytes.now
