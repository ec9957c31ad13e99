-- What a pair holds depends on its two blocks alone.
use Rattle.std.proofs.Common.{◌≡◌, ap, ◌∙◌}
use Rattle.std.specs.Prelude.{option_and_then}
use Rattle.lfs_block.specs.Disk.{Disk, block_of}
use Rattle.lfs_meta.specs.Body.{Pair}
use Rattle.lfs_meta.specs.LiveBlock.{live_tags, tags_of, part_of, stored_part_of}
use Rattle.lfs_meta.specs.Replay.{replay}
use Rattle.lfs_meta.specs.Complete.{complete_part}
use Rattle.lfs_meta.specs.Laws.{SameBlocks}

pub same_parts : (d e : Disk) (pair : Pair) → SameBlocks d e pair
    → (tags_of d pair ≡ tags_of e pair) × (part_of d pair ≡ part_of e pair) × (stored_part_of d pair ≡ stored_part_of e pair)
same_parts d e pair same =
    let tags : tags_of d pair ≡ tags_of e pair = ap (λ b. live_tags b (block_of d pair.1)) same.0
    ∙ ap (live_tags (block_of e pair.0)) same.1 in
    let part : part_of d pair ≡ part_of e pair = ap (option_and_then replay) tags in
    (tags, part, ap (option_and_then complete_part) part)
