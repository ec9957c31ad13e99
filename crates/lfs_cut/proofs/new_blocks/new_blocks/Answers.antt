-- The room is that of the outline, and only directories in front have parts that are set.
use Rattle.std.proofs.Common.{ℕ, List, ap, take, ◌∙◌, min}
use Rattle.std.specs.Prelude.{sum_by}
use Rattle.lfs_fs.specs.Directory.{Directory}
use Rattle.lfs_fs.specs.Volume.{Volume}
use Rattle.lfs_cut.specs.SetParts.{set_blocks_of}
use Rattle.lfs_cut.proofs.FrontLemmas.{blocks_in_front}
use Rattle.lfs_cut.proofs.SetPartLemmas.{all_blocks}
use Rattle.lfs_cut.proofs.new_blocks.new_blocks.Goals as goal

pub returns : goal.returns
returns c =
    c.blocks_of_directories.ensures
    ∙ ap (λ (ds : List Directory). min 18446744073709551615 (sum_by (set_blocks_of c.block_room.result.bytes c.block_room.result.superblock)
    ds))
    (c.in_front.ensures ∙ ap (take c.args.front) (c.deref.ensures.value ∙ ap (λ (v : Volume). v.directories) c.outline.view_is))
    ∙ ap (λ (n : ℕ). min 18446744073709551615 n)
    (blocks_in_front c.block_room.result.bytes c.block_room.result.superblock c.args.front c.args.outline.now.directories c.requires.front
    ∙ all_blocks c.args.outline.now c.block_room.result.bytes c.block_room.result.superblock c.block_room.ensures.bytes
    c.block_room.ensures.superblock)
